-- The directives of a list, joined one by one, are those that the whole list has.
use Rattle.std.proofs.Common.{◌≡◌, ℕ, Bool, true, false, ◌||◌, List, [], ◌∷◌, fold, Option, Some, None, refl, ◌∙◌}
use Rattle.std.proofs.Math.Bool.{or-false}
use Rattle.std.specs.Prelude.{codes, min}
use Rattle.std.specs.List.{filter_map, cons_option}
use Rattle.pp_fresh.specs.Directives.{has_directive, seconds_of, least_of}
use Rattle.pp_fresh.specs.Joining.{joined, lesser}
use Rattle.pp_fresh.specs.declared.directives.Directives.{Directives}

-- the least of a number, where there is one, and of the others
abbrev pub least_after : Option ℕ → List ℕ → Option ℕ
least_after None ns = least_of ns
least_after (Some n) ns = Some (fold min n ns)

least_after-nothing : (n : Option ℕ) → least_after n [] ≡ n
least_after-nothing None = refl
least_after-nothing (Some n) = refl

least_after-lesser : (a b : Option ℕ) (ns : List ℕ) → least_after (lesser a b) ns ≡ least_after a (cons_option b ns)
least_after-lesser None None ns = refl
least_after-lesser None (Some b) ns = refl
least_after-lesser (Some a) None ns = refl
least_after-lesser (Some a) (Some b) ns = refl

or_more : (a b c : Bool) → ((a || b) || c) ≡ (a || (b || c))
or_more true b c = refl
or_more false b c = refl

-- the directives and those of a list
abbrev pub joined_all : Directives → List (List ℕ) → Directives
joined_all d directives = record {
  no_store = d.no_store || has_directive (codes "no-store") directives;
  no_cache = d.no_cache || has_directive (codes "no-cache") directives;
  private = d.private || has_directive (codes "private") directives;
  only_if_cached = d.only_if_cached || has_directive (codes "only-if-cached") directives;
  max_age = least_after d.max_age (filter_map (seconds_of (codes "max-age")) directives);
  s_maxage = least_after d.s_maxage (filter_map (seconds_of (codes "s-maxage")) directives);
  min_fresh = least_after d.min_fresh (filter_map (seconds_of (codes "min-fresh")) directives);
}

pub fold-joined : (d : Directives) (directives : List (List ℕ)) → fold joined d directives ≡ joined_all d directives
fold-joined d [] = simp (or-false, least_after-nothing)
fold-joined d (directive ∷ directives) = fold-joined (joined d directive) directives ∙ simp (or_more, least_after-lesser)
