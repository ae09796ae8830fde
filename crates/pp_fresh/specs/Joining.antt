-- Directives read one by one, for the steps of `Directives::read`.
use Rattle.std.specs.Prelude.{ℕ, false, ◌||◌, min, List, codes, Option, Some, None}
use Rattle.pp_fresh.specs.Directives.{is_directive, seconds_of}
use Rattle.pp_fresh.specs.declared.directives.Directives.{Directives}

abbrev pub lesser : Option ℕ → Option ℕ → Option ℕ
lesser None b = b
lesser (Some a) None = Some a
lesser (Some a) (Some b) = Some (min a b)

abbrev pub no_directives : Directives
no_directives = record {
  no_store = false;
  no_cache = false;
  private = false;
  only_if_cached = false;
  max_age = None;
  s_maxage = None;
  min_fresh = None;
}

-- the directives and one more
abbrev pub joined : Directives → List ℕ → Directives
joined d directive = record {
  no_store = d.no_store || is_directive (codes "no-store") directive;
  no_cache = d.no_cache || is_directive (codes "no-cache") directive;
  private = d.private || is_directive (codes "private") directive;
  only_if_cached = d.only_if_cached || is_directive (codes "only-if-cached") directive;
  max_age = lesser d.max_age (seconds_of (codes "max-age") directive);
  s_maxage = lesser d.s_maxage (seconds_of (codes "s-maxage") directive);
  min_fresh = lesser d.min_fresh (seconds_of (codes "min-fresh") directive);
}
