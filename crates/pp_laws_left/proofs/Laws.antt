-- The law: what a turn leaves of replies, and of places where no head is.
use Rattle.std.proofs.Common.{◌≡◌, ◌⊎◌, refl, ℕ, nat_lt, Bool, true, false, List, [], ◌∷◌, is_some, Option, inl, inr, sym, ap, ◌∙◌, arith}
use Rattle.std.proofs.lemmas.Bool.Decides.{nat_tests}
use Rattle.pp_world.specs.Log.{Log}
use Rattle.pp_world.specs.declared.note.Decision.{Decision}
use Rattle.pp_world.specs.declared.note.Decision.TheVariants.{Refuse, Hit, Part, Head, NotModified, Unsatisfiable, Relay, Validate, Fetch, Pass}
use Rattle.pp_law.specs.Deciding.{span_of}
use Rattle.pp_law.specs.Opening.{is_at}
use Rattle.pp_law.specs.Phases.{come, come_to, is_done, next, passed, phases}
use Rattle.pp_law.specs.Requests.{NoHead, parsed_in}
use Rattle.pp_law.specs.Stages.{is_begun, is_followed_by, is_passing, is_undecided, passed_of}
use Rattle.pp_law.specs.State.{State, Phase, DecidingAgain, Term, Client, Reply, Answering}
use Rattle.pp_laws_decided.specs.Decided.{IsReadFrom}
use Rattle.pp_laws_decided.proofs.Laws.{turns_are_decided}
use Rattle.pp_laws_replies.specs.ByRow.{is_by_row as is_row}
use Rattle.pp_laws_served.specs.Served.{IsReply, is_by_row}
use Rattle.pp_obeys.specs.Obeys.{Obeys}
use Rattle.pp_obeys.proofs.Obeying.{obeys_silently}
use Rattle.pp_laws_left.specs.Left.{EndsAreLeft, IsGoing, TurnsAreLeft}
use Rattle.pp_laws_left.proofs.Fine.{Fine, Places, all_of, begun, undecided}
use Rattle.pp_laws_left.proofs.Turns.{fine_on}

same_row : (d : Decision) → is_row d ≡ true → is_by_row d ≡ true
same_row (Refuse status) is = absurd (cc is)
same_row (Hit from to) is = refl
same_row (Part from to) is = refl
same_row Head is = refl
same_row NotModified is = refl
same_row Unsatisfiable is = refl
same_row Relay is = absurd (cc is)
same_row Validate is = absurd (cc is)
same_row Fetch is = absurd (cc is)
same_row Pass is = absurd (cc is)

-- what has bytes to be said follows
some_follow : (d : Decision) → nat_lt (span_of d).0 (span_of d).1 ≡ true → is_followed_by d ≡ true
some_follow (Hit from to) lt = refl
some_follow (Part from to) lt = refl
some_follow (Refuse status) lt = absurd (cc lt)
some_follow Head lt = absurd (cc lt)
some_follow NotModified lt = absurd (cc lt)
some_follow Unsatisfiable lt = absurd (cc lt)
some_follow Relay lt = absurd (cc lt)
some_follow Validate lt = absurd (cc lt)
some_follow Fetch lt = absurd (cc lt)
some_follow Pass lt = absurd (cc lt)

not_less : (n : ℕ) → nat_lt n n ≡ true → ⊥
not_less n lt = grind (arith, nat_tests)

going_of : (s : State) (c : Client) (r : Reply) → Fine c → c.stage ≡ Answering r → (r.has_begun ≡ false → is_passing r.decision ≡ false → IsReadFrom s c r) → IsGoing r
going_of s c r h at read = record {
  even = (h.reply r at).even;
  within = (h.reply r at).within;
  sourced = λ off lt. (h.reply r at).sourced lt;
  decided = λ off fresh. (same_row r.decision (read fresh off).by_row, ap (λ (o : Option ℕ). is_some o) (read fresh off).is);
  followed = λ fresh lt. by (is_passing r.decision) refl fresh lt;
}
  where
    by : (t : Bool) → is_passing r.decision ≡ t → r.has_begun ≡ false → nat_lt r.at r.to ≡ true → is_followed_by r.decision ≡ true
    by true on fresh lt = absurd (not_less r.to (ap (λ n. nat_lt n r.to) (sym ((h.reply r at).even on)) ∙ lt))
    by false off fresh lt = let w = read fresh off in some_follow r.decision (ap (λ n. nat_lt n (span_of r.decision).1) (sym w.at) ∙ ap (λ n. nat_lt r.at n) (sym w.to) ∙ lt)

reply_of_passed : (c : Client) (r : Reply) → IsGoing r → (is_passing r.decision ≡ true → is_some (passed_of c) ≡ true) → IsReply c r
reply_of_passed c r g passed = record {
  passed = λ on. (passed on, g.even on);
  within = g.within;
  sourced = g.sourced;
  decided = g.decided;
  followed = g.followed;
}

heads_of : (c : Client) (status : ℕ) → Fine c → c.front ≡ NoHead status → (is_undecided c.stage ≡ true) ⊎ (is_begun c ≡ true)
heads_of c status h none = by (h.place (ap parsed_in none))
  where
    by : Places c.stage → (is_undecided c.stage ≡ true) ⊎ (is_begun c ≡ true)
    by (undecided is) = inl is
    by (begun is) = inr is

pub turns_are_left : TurnsAreLeft
turns_are_left terms s log obeys =
    let h = fine_on terms s log obeys in
    let d = turns_are_decided terms s log obeys in
    record {
      going = λ c r i at. going_of s c r (all_of h c i) at (λ fresh off. (d.chosen c r i at fresh).shows off);
      replies = λ c r i at passed. reply_of_passed c r (going_of s c r (all_of h c i) at (λ fresh off. (d.chosen c r i at fresh).shows off)) passed;
      heads = λ c status i none. heads_of c status (all_of h c i) none;
    }

-- ---- some phases on

obeys_passed : (stops : State → Bool) {terms : List Term} {log : Log} (s : State) → Obeys terms s log → Obeys terms (passed stops s) log
obeys_passed stops {terms} {log} s obeys = by (stops s)
  where
    by_done : (t : Bool) → is_done s ≡ t → Obeys terms (elim t as (λ x. State) [ true ↦ next s | false ↦ s ]) log
    by_done true done = obeys_silently obeys done
    by_done false isnt = obeys

    by : (t : Bool) → Obeys terms (elim t as (λ x. State) [ true ↦ s | false ↦ elim (is_done s) as (λ y. State) [ true ↦ next s | false ↦ s ] ]) log
    by true = obeys
    by false = by_done (is_done s) refl

pub obeys_coming : (stops : State → Bool) (ps : List Phase) {terms : List Term} {log : Log} (s : State) → Obeys terms s log → Obeys terms (come stops ps s) log
unfolding come
obeys_coming stops [] s obeys = obeys
obeys_coming stops (p ∷ ps) {terms} {log} s obeys = obeys_coming stops ps _ (by (is_at p s))
  where
    by : (t : Bool) → Obeys terms (elim t as (λ x. State) [ true ↦ passed stops s | false ↦ s ]) log
    by true = obeys_passed stops s obeys
    by false = obeys

pub ends_are_left : EndsAreLeft
unfolding come_to
ends_are_left terms s log obeys = turns_are_left terms (come_to DecidingAgain s) log (obeys_coming (is_at DecidingAgain) phases s obeys)
