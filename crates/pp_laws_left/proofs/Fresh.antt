-- Where a turn may end nothing is passed to who is to read from a row.
use Rattle.std.proofs.Common.{◌≡◌, ◌⊎◌, refl, Bool, true, false, not, ◌&&◌, ◌||◌, nat_lt, List, [], ◌∷◌, is_some, Option, Some, None, inl, inr, sym, ap, ◌∙◌}
use Rattle.pp_world.specs.Log.{Log}
use Rattle.pp_world.specs.declared.note.Decision.{Decision}
use Rattle.pp_world.specs.declared.note.Decision.TheVariants.{Refuse, Hit, Part, Head, NotModified, Unsatisfiable, Relay, Validate, Fetch, Pass}
use Rattle.pp_law.specs.Deciding.{span_of}
use Rattle.pp_law.specs.Decisions.{decide, decide_head}
use Rattle.pp_law.specs.Due.{Due, due_of, due_reply, first_due, give_up, has_lost_row, is_told}
use Rattle.pp_law.specs.Lists.{first_some, is_some_with}
use Rattle.pp_law.specs.Opening.{is_at}
use Rattle.pp_law.specs.Phases.{come_to, is_done, is_done_with, may_end}
use Rattle.pp_law.specs.Requests.{Front, NoHeadYet, NoHead, IsRequest}
use Rattle.pp_law.specs.Sharing.{due_undecided}
use Rattle.pp_law.specs.Stages.{is_followed_by, is_passing, passed_of, reply_of}
use Rattle.pp_law.specs.State.{State, Term, DecidingAgain, Phase, Client, Instance, Reply, Stage, Undecided, Waiting, Passing, Answering}
use Rattle.pp_law.specs.Table.{instance, is_instance, source_of}
use Rattle.pp_laws.specs.Runs.{IsIn}
use Rattle.pp_laws.proofs.Lists.{in_find}
use Rattle.pp_laws.proofs.Tests.{same_number}
use Rattle.pp_laws_coming.specs.Coming.{IsToldOn, may_have_ask}
use Rattle.pp_laws_coming.proofs.Laws.{asks_told}
use Rattle.pp_laws_decided.specs.Decided.{IsReadFrom}
use Rattle.pp_laws_decided.proofs.Laws.{turns_are_decided}
use Rattle.pp_laws_ends.proofs.Undecided.{none_by_stage}
use Rattle.pp_laws_replies.specs.ByRow.{is_by_row}
use Rattle.pp_laws_served.proofs.Dues.{trying_of}
use Rattle.pp_laws_turn.proofs.Happenings.{gate}
use Rattle.pp_laws_turn.proofs.Laws.{sound_turns}
use Rattle.pp_obeys.specs.Obeys.{Obeys}
use Rattle.pp_obeys.proofs.Come.{same_phase}
use Rattle.pp_laws_left.proofs.SpokenBegins.{IsFresh}

-- ---- nothing is due

none_first : (t : State) (cs : List Client) → first_some (due_of t) cs ≡ None → (c : Client) → IsIn c cs → due_of t c ≡ None
none_first t [] none c i = absurd i
none_first t (d ∷ ds) none c i = by (due_of t d) refl none i (λ rest j. none_first t ds rest c j)
  where
    by : (o : Option Due) → due_of t d ≡ o → (elim o as (λ x. Option Due) [ Some y ↦ Some y | None ↦ first_some (due_of t) ds ]) ≡ None → (c ≡ d) ⊎ IsIn c ds → (first_some (due_of t) ds ≡ None → IsIn c ds → due_of t c ≡ None) → due_of t c ≡ None
    by (Some y) is at j rest = absurd (cc at)
    by None is at (inl eq) rest = ap (due_of t) eq ∙ is
    by None is at (inr j) rest = rest at j

nothing : (o : Option Due) → not (is_some o) ≡ true → o ≡ None
nothing None is = refl
nothing (Some d) is = absurd (cc is)

pub none_due : (s : State) → may_end s ≡ true → (c : Client) → IsIn c (come_to DecidingAgain s).clients → due_of (come_to DecidingAgain s) c ≡ None
none_due s may c i = none_first t t.clients (nothing (first_due t) (sym (ap (λ (q : Phase). is_done_with q t) at) ∙ w.1)) c i
  where
    t : State
    t = come_to DecidingAgain s

    w : (is_at DecidingAgain t ≡ true) × (is_done t ≡ true)
    w = gate (is_at DecidingAgain t) (is_done t) may

    at : t.phase ≡ DecidingAgain
    at = sym (same_phase DecidingAgain t.phase w.0)

-- ---- who is to read from a row

-- of a decision by the row that follows none no bytes are shown
no_bytes : (d : Decision) → is_by_row d ≡ true → is_followed_by d ≡ false → (span_of d).1 ≡ 0
no_bytes (Hit from to) row off = absurd (cc off)
no_bytes (Part from to) row off = absurd (cc off)
no_bytes (Refuse status) row off = refl
no_bytes Head row off = refl
no_bytes NotModified row off = refl
no_bytes Unsatisfiable row off = refl
no_bytes Relay row off = refl
no_bytes Validate row off = refl
no_bytes Fetch row off = refl
no_bytes Pass row off = refl

three_off : (a b d : Bool) → a ≡ false → b ≡ false → d ≡ false → (a || b || d) ≡ false
three_off true b d x y z = absurd (cc x)
three_off false true d x y z = absurd (cc y)
three_off false false d x y z = z

pub fresh_at : (terms : List Term) (t : State) (log : Log) → Obeys terms t log → t.is_stopped ≡ false → (c : Client) → IsIn c t.clients → due_of t c ≡ None → IsFresh c
fresh_at terms t log obeys runs c i none goes r at fresh row = by x.0.is_retired refl
  where
    h : IsToldOn t
    h = asks_told terms t log obeys

    read : IsReadFrom t c r
    read = ((turns_are_decided terms t log obeys).chosen c r i at fresh).shows row

    reply : reply_of c ≡ Some r
    reply = ap (λ (stage : Stage). elim stage as (λ y. Option Reply) [ Undecided ↦ None | Waiting ↦ None | Passing ↦ None | Answering q ↦ Some q ]) at

    x : (y : Instance) × (instance t read.source ≡ Some y)
    x = (sound_turns terms t log obeys).sources c i goes r read.source reply read.is

    found : source_of t r ≡ Some x.0
    found = ap (λ o. elim o as (λ y. Option Instance) [ None ↦ None | Some id ↦ instance t id ]) read.is ∙ x.1

    -- nothing that is due leaves it its row
    kept : (elim (has_lost_row t r) as (λ y. Option Decision) [ true ↦ decide t c | false ↦ None ]) ≡ None
    kept = (trying_of c.course _ (
        sym (ap (λ (b : Bool). elim b as (λ y. Option Decision) [ true ↦ None | false ↦ give_up c.course (elim (has_lost_row t r) as (λ z. Option Decision) [ true ↦ decide t c | false ↦ None ]) ]) fresh)
        ∙ sym (ap (λ (stage : Stage). elim stage as (λ y. Option Decision) [
          | Undecided ↦ due_undecided t c
          | Waiting ↦ give_up c.course (elim (is_told c.brought) as (λ z. Option Decision) [ true ↦ decide t c | false ↦ None ])
          | Passing ↦ give_up c.course None
          | Answering q ↦ due_reply t c q
        ]) at)
        ∙ none_by_stage t c runs goes none)).1

    decides : decide t c ≡ None → ⊥
    decides off =
        let is : decide t c ≡ Some (decide_head t c read.request) = ap (λ (f : Front). elim f as (λ y. Option Decision) [ NoHeadYet ↦ None | NoHead status ↦ Some (Refuse status) | IsRequest q ↦ Some (decide_head t c q) ]) read.front in
        let both : None ≡ Some (decide_head t c read.request) = sym off ∙ is in
        cc both

    lost : x.0.is_retired ≡ true → has_lost_row t r ≡ is_followed_by r.decision
    lost retired =
        ap (λ o. is_followed_by r.decision && not (is_some_with (λ (y : Instance). not y.is_retired) o)) found
        ∙ ap (λ b. is_followed_by r.decision && not (not b)) retired
        ∙ on (is_followed_by r.decision)
      where
        on : (b : Bool) → (b && true) ≡ b
        on true = refl
        on false = refl

    by_kind : x.0.is_retired ≡ true → (f : Bool) → is_followed_by r.decision ≡ f → passed_of c ≡ None
    by_kind retired true on = absurd (decides (sym (ap (λ b. elim b as (λ y. Option Decision) [ true ↦ decide t c | false ↦ None ]) (lost retired ∙ on)) ∙ kept))
    by_kind retired false off = h.unasked c i (ap may_have_ask at ∙ three_off r.has_begun (is_passing r.decision) (nat_lt 0 r.to) fresh row (ap (λ n. nat_lt 0 n) (read.to ∙ no_bytes r.decision read.by_row off)))

    by : (b : Bool) → x.0.is_retired ≡ b → passed_of c ≡ None
    by false stands =
        let there = in_find (is_instance read.source) x.0 t.instances x.1 in
        h.bare c x.0 i there.0 (record { stands = stands; reply = r; is = reply; source = read.is ∙ ap (λ n. Some n) (sym (same_number x.0.id read.source there.1)) })
    by true retired = by_kind retired (is_followed_by r.decision) refl
