-- What a response may bring fits what is to come of it, from its head on.
use Rattle.std.proofs.Common.{◌≡◌, refl, ℕ, ◌+◌, ◌-◌, ◌≤◌, ◌^◌, nat_le, Bool, true, false, ◌&&◌, List, [], ◌++◌, drop, length, Option, Some, None, Ok, option_and_then, if◌then◌else◌, sym, subst, ◌∙◌, append_assoc, length-drop, le_trans, zero-le, arith}
use Rattle.std.proofs.lemmas.Bool.Decides.{nat_tests}
use Rattle.pp_framing.specs.Framing.{rule_of}
use Rattle.pp_framing.specs.Rules.{body_of}
use Rattle.pp_framing.specs.declared.body.BodyRule.{BodyRule}
use Rattle.pp_head.specs.Response.{Response}
use Rattle.pp_text.specs.Fields.{Field}
use Rattle.pp_valid.specs.Kept.{has_room_for}
use Rattle.pp_valid.specs.TagStates.{tag_of}
use Rattle.pp_valid.specs.Versions.{can_keep, can_share, is_telling, strong_part, total_of, version_of, version_with}
use Rattle.pp_valid.specs.declared.version.Version.{Version}
use Rattle.pp_law.specs.Lists.{Bytes}
use Rattle.pp_law.specs.OwnHeads.{asks_only_identity, end_in, range_in}
use Rattle.pp_law.specs.Responses.{answer_with, asks_head, payload_of}
use Rattle.pp_law.specs.Stages.{is_through}
use Rattle.pp_law.specs.State.{Answer, Exchange}
use Rattle.pp_laws.proofs.Bodies.{rule_at_304}
use Rattle.pp_laws.proofs.Payloads.{payload-grows}
use Rattle.pp_laws.proofs.Tests.{first_holds, second_holds}
use Rattle.pp_laws_spans.proofs.Laws.{bodies_fill, spans_within}
use Rattle.pp_laws_brought.proofs.Heads.{Starts}
use Rattle.pp_laws_brought.proofs.View.{Fits}

-- ---- a version has 2^30 bytes at most

short_by : (fields : List Field) (only : Bool) (tag : List ℕ) (n : ℕ) (v : Version) (t : Bool) → (is_telling tag && (can_keep fields n && can_share fields only)) ≡ t → (if t then Some (record { tag = tag; length = n }) else None) ≡ Some v → v.length ≤ 2 ^ 30
short_by fields only tag n v true can is =
    let e : (record { tag = tag; length = n }) ≡ v = cc is in
    let le : nat_le n (2 ^ 30) ≡ true = first_holds (nat_le n (2 ^ 30)) (has_room_for fields) (first_holds (can_keep fields n) (can_share fields only) (second_holds (is_telling tag) (can_keep fields n && can_share fields only) can)) in
    subst (λ (w : Version). w.length ≤ 2 ^ 30) e (within n (2 ^ 30) le)
  where
    within : (m k : ℕ) → nat_le m k ≡ true → m ≤ k
    within m k le = grind (arith, nat_tests)
short_by fields only tag n v false can is = absurd (cc is)

short_made : (fields : List Field) (status : ℕ) (only : Bool) (v : Version) → version_of fields status only ≡ Some v → v.length ≤ 2 ^ 30
short_made fields status only v is = by_tag (strong_part (tag_of fields)) is
  where
    by_total : (tag : List ℕ) (o : Option ℕ) → option_and_then (version_with fields only tag) o ≡ Some v → v.length ≤ 2 ^ 30
    by_total tag None at = absurd (cc at)
    by_total tag (Some n) at = short_by fields only tag n v (is_telling tag && (can_keep fields n && can_share fields only)) refl at

    by_tag : (o : Option (List ℕ)) → option_and_then (λ tag. option_and_then (version_with fields only tag) (total_of fields status)) o ≡ Some v → v.length ≤ 2 ^ 30
    by_tag None at = absurd (cc at)
    by_tag (Some tag) at = by_total tag (total_of fields status) at

-- ---- from the head on

no_less : (m n k : ℕ) → m ≤ n → m ≤ n + k
no_less m n k le = omega arith

some_in : {v u : Version} → Some v ≡ Some u → v ≡ u
some_in both = cc both

pub starts_of : (e : Exchange) (head : Response) (rule : BodyRule) → rule_of (asks_head e) head.status head.fields ≡ Ok rule → is_through e ≡ false → Starts e head (answer_with e head rule)
starts_of e head rule found own = record {
  spans = λ v is.
      let w = spans_within e head v is in
      record {
        span = record { order = w.order; short = le_trans w.ends (short_made head.fields head.status (asks_only_identity e) v is) };
        room = λ more. no_less _ _ (length (payload_of (answer_with e head rule))) (bodies_fill e head v rule more own is found);
        ends = λ u told. let same_version : v ≡ u = some_in (sym is ∙ told) in subst (λ (x : Version). end_in (range_in head) v.length ≤ x.length) same_version w.ends;
      };
  nothing = λ is. record {
    span = record { order = zero-le; short = zero-le };
    room = λ more. subst (λ (r : BodyRule). 0 + length (body_of r more).payload ≤ 0 + length (body_of r []).payload) (sym (rule_at_304 (asks_head e) head rule found is)) zero-le;
    ends = λ u told. zero-le;
  };
}

-- ---- and behind each of its bytes

abbrev pub behind : Answer → Bytes → Answer
behind a bytes = record a { raw = a.raw ++ bytes }

-- the data that these bytes bring
abbrev pub added : Answer → Bytes → Bytes
added a bytes = drop (length (payload_of a)) (body_of a.rule (a.raw ++ bytes)).payload

added_long : (a : Answer) (bytes : Bytes) → length (added a bytes) ≡ length (body_of a.rule (a.raw ++ bytes)).payload - length (payload_of a)
added_long a bytes = length-drop (length (payload_of a)) (body_of a.rule (a.raw ++ bytes)).payload

no_more : (next to old now new : ℕ) → new ≡ now - old → old ≤ now → next + now ≤ to + old → next + new ≤ to
no_more next to old now new is grows room = omega arith

room_behind : (next to old now new all : ℕ) → new ≡ now - old → old ≤ now → next + all ≤ to + old → next + new + all ≤ to + now
room_behind next to old now new all is grows room = omega arith

pub added_fits : (a : Answer) (next to : ℕ) (bytes : Bytes) → Fits a next to → next + length (added a bytes) ≤ to
added_fits a next to bytes f = no_more next to (length (payload_of a)) (length (body_of a.rule (a.raw ++ bytes)).payload) (length (added a bytes)) (added_long a bytes) (payload-grows a.rule a.raw bytes) (f.room bytes)

pub fits_behind : (a : Answer) (next to : ℕ) (bytes : Bytes) → Fits a next to → Fits (behind a bytes) (next + length (added a bytes)) to
fits_behind a next to bytes f = record {
  span = record { order = added_fits a next to bytes f; short = f.span.short };
  room = λ more.
      let far : next + length (body_of a.rule ((a.raw ++ bytes) ++ more)).payload ≤ to + length (payload_of a) = subst (λ (raw : Bytes). next + length (body_of a.rule raw).payload ≤ to + length (payload_of a)) (sym (append_assoc a.raw bytes more)) (f.room (bytes ++ more)) in
      room_behind next to (length (payload_of a)) (length (body_of a.rule (a.raw ++ bytes)).payload) (length (added a bytes)) (length (body_of a.rule ((a.raw ++ bytes) ++ more)).payload) (added_long a bytes) (payload-grows a.rule a.raw bytes) far;
  ends = f.ends;
}
