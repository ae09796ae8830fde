-- What the head of a response to an exchange of the cache's own does to the row of its key (RFC 2616, sections 10.3.5 and 14.9;
-- RFC 7234, section 4.3.3).
use Rattle.std.specs.Prelude.{ℕ, Bool, true, false, ◌==◌, ◌&&◌, List, bytes_eq, Option, Some, None}
use Rattle.pp_flow.specs.declared.entry.Aim.{Aim}
use Rattle.pp_flow.specs.declared.entry.Aim.TheVariants.{Own, Hole, Pass as Through}
use Rattle.pp_fresh.specs.Ready.{may_store}
use Rattle.pp_objects.specs.declared.id.ObjectId.{ObjectId}
use Rattle.pp_text.specs.Fields.{Field}
use Rattle.pp_valid.specs.Conditions.{names_other_tag}
use Rattle.pp_valid.specs.declared.version.Version.{Version}
use Rattle.pp_flow.specs.declared.errand.Kind.{Kind}
use Rattle.pp_flow.specs.declared.errand.Kind.TheVariants.{Whole, Range, Hole as AsHole, Check, Pass as AsPassed}
use Rattle.pp_flow.specs.Errands.{named_by}
use Rattle.pp_answers.specs.declared.rows.Unchanged.{Unchanged}
use Rattle.pp_answers.specs.declared.rows.Unchanged.TheVariants.{NotShared, OfAnother, OfRow, OfNothing}

abbrev pub names_tag : Option (List ℕ) → List ℕ → Bool
names_tag None tag = false
names_tag (Some named) tag = bytes_eq named tag

-- "A full response indicates that none of the stored responses nominated in the conditional request are suitable"
abbrev pub is_full_answer : Aim → ℕ → Kind → Version → Bool
is_full_answer Own status kind known = (status == 200) && names_tag (named_by kind) known.tag
is_full_answer (Hole v from to) status kind known = false
is_full_answer Through status kind known = false

-- "A server MAY ignore the Range header field" (RFC 7233, section 3.1): a part was asked for, and the whole comes; for another
-- version than its ask names it has to (section 3.2)
abbrev pub ignores_range : Kind → ℕ → Version → Bool
ignores_range Whole status v = false
ignores_range (Range first last) status v = status == 200
ignores_range (AsHole first last tag) status v = (status == 200) && bytes_eq tag v.tag
ignores_range (Check tag) status v = false
ignores_range AsPassed status v = false

-- a 304 where this is the row, with its version: "If a 304 response indicates an entity not currently cached, then the cache MUST disregard the
-- response"
abbrev pub unchanged_for : List Field → Kind → ObjectId × Version → Unchanged
unchanged_for fields kind row = elim (names_other_tag fields row.1.tag) [
  | true ↦ OfAnother
  | false ↦ elim (names_tag (named_by kind) row.1.tag) [ true ↦ OfRow row.0 | false ↦ OfNothing ]
]

-- what forbids sharing is never shared
abbrev pub told_unchanged : List Field → Kind → Option (ObjectId × Version) → Unchanged
told_unchanged fields kind known = elim (may_store fields) [ false ↦ NotShared | true ↦ elim known [ None ↦ OfNothing | Some row ↦ unchanged_for fields kind row ] ]
