-- The client to whom a decision is due goes on, and no reply of it has begun.
use Rattle.std.proofs.Common.{◌≡◌, ◌⊎◌, ◌≤◌, ◌<◌, inl, inr, refl, sym, subst, ap, ◌∙◌, ℕ, ◌+◌, Bool, true, false, ◌||◌, cond, find, List, [], ◌∷◌, Option, Some, None, arith}
use Rattle.std.specs.Prelude.{count_by, is_ok}
use Rattle.pp_cache_law.proofs.Numbers.{same_test, some_is}
use Rattle.pp_cache_law.proofs.PairLemmas.{count_first}
use Rattle.pp_law.specs.Connections.{is_client}
use Rattle.pp_law.specs.Due.{Due, Decide, CutOff, cut_in, due_by_stage, due_cut, due_decision, due_of, due_reply, first_due, give_up, has_lost_row, is_told}
use Rattle.pp_law.specs.Decisions.{decide}
use Rattle.pp_law.specs.Lists.{first_some, is_some_with}
use Rattle.pp_law.specs.Opening.{is_at}
use Rattle.pp_law.specs.Phases.{decides}
use Rattle.pp_law.specs.Requests.{Front, Parsed, NoHeadYet, NoHead, IsRequest, expects_interim}
use Rattle.pp_law.specs.Sharing.{due_undecided}
use Rattle.pp_law.specs.Stages.{is_begun}
use Rattle.pp_law.specs.State.{State, Client, Reply, Stage, Undecided, Waiting, Passing, Answering, Deciding, DecidingAgain, Evicting, Phase}
use Rattle.pp_obeys.proofs.Come.{place_of, same_phase}
use Rattle.pp_obeys.proofs.TurnHappenings.{decides_again, decides_due}
use Rattle.pp_seats.specs.Decided.{expects_in}
use Rattle.pp_seats.specs.Dues.{refused_for, refused_in}
use Rattle.pp_seats.specs.Heads.{asked_in}
use Rattle.pp_seats.specs.declared.front.Asked.{Asked}
use Rattle.pp_seats.specs.declared.front.Front.{Front as SeatFront}
use Rattle.pp_seats.specs.declared.front.Front.TheVariants.{NoHeadYet as NoneYet, NoHead as NoneThere, Request as IsThere}
use Rattle.pp_seats_law.specs.Decided.{expects_of}
use Rattle.pp_seats_law.specs.Fronts.{ShowsFront}
use Rattle.pp_world.specs.declared.note.Cause.{Cause}
use Rattle.pp_world.specs.declared.note.Decision.{Decision}

-- ---- what is due first is due to the client that it names

abbrev pub due_by : ℕ → ℕ → Option Cause → Option Decision → Option Due
due_by n i cut decision = elim cut [ Some cause ↦ Some (CutOff n cause) | None ↦ elim decision [ Some d ↦ Some (Decide n i d) | None ↦ None ] ]

abbrev pub named_by : Due → ℕ
named_by (Decide n i d) = n
named_by (CutOff n cause) = n

names_of : (s : State) (c : Client) (y : Due) → due_of s c ≡ Some y → c.number ≡ named_by y
names_of s c y = by (due_cut s c) (due_decision s c)
  where
    by : (o : Option Cause) (p : Option Decision) → due_by c.number c.index o p ≡ Some y → c.number ≡ named_by y
    by (Some cause) p at = ap named_by (some_is (CutOff c.number cause) y at)
    by None None at = absurd (cc at)
    by None (Some d) at = ap named_by (some_is (Decide c.number c.index d) y at)

its_number : (c : Client) (n : ℕ) → c.number ≡ n → is_client n c ≡ true
its_number c n is = same_test c.number n is

count_one : (s : State) (cs : List Client) (y : Due) → first_some (due_of s) cs ≡ Some y → 1 ≤ count_by (is_client (named_by y)) cs
count_one s [] y is = absurd (cc is)
count_one s (c ∷ cs) y is = by (due_of s c) (is_client (named_by y) c) refl refl is (count_one s cs y)
  where
    by : (o : Option Due) (b : Bool) → due_of s c ≡ o → is_client (named_by y) c ≡ b → (elim o as (λ x. Option Due) [ Some z ↦ Some z | None ↦ first_some (due_of s) cs ]) ≡ Some y
        → (first_some (due_of s) cs ≡ Some y → 1 ≤ count_by (is_client (named_by y)) cs) → 1 ≤ count_by (is_client (named_by y)) (c ∷ cs)
    by o true due here at rest = subst (λ (k : ℕ). 1 ≤ k) (sym (count_first (is_client (named_by y)) c cs ∙ ap (λ (b : Bool). cond b 1 0 + count_by (is_client (named_by y)) cs) here)) (omega arith)
    by (Some z) false due here at rest = absurd (cc (sym here ∙ its_number c (named_by y) (names_of s c y (due ∙ at))))
    by None false due here at rest = subst (λ (k : ℕ). 1 ≤ k) (sym (count_first (is_client (named_by y)) c cs ∙ ap (λ (b : Bool). cond b 1 0 + count_by (is_client (named_by y)) cs) here)) (omega (arith, rest at))

-- numbers are distinct
pub its_due : (s : State) (cs : List Client) (y : Due) (c : Client) → first_some (due_of s) cs ≡ Some y → find (is_client (named_by y)) cs ≡ Some c → count_by (is_client (named_by y)) cs ≤ 1 → due_of s c ≡ Some y
its_due s [] y c first found few = absurd (cc found)
its_due s (e ∷ es) y c first found few = by (due_of s e) (is_client (named_by y) e) refl refl first found (its_due s es y c)
  where
    counted : (b : Bool) → is_client (named_by y) e ≡ b → cond b 1 0 + count_by (is_client (named_by y)) es ≤ 1
    counted b here = subst (λ (k : ℕ). k ≤ 1) (count_first (is_client (named_by y)) e es ∙ ap (λ (t : Bool). cond t 1 0 + count_by (is_client (named_by y)) es) here) few

    by : (o : Option Due) (b : Bool) → due_of s e ≡ o → is_client (named_by y) e ≡ b → (elim o as (λ x. Option Due) [ Some z ↦ Some z | None ↦ first_some (due_of s) es ]) ≡ Some y → cond b (Some e) (find (is_client (named_by y)) es) ≡ Some c
        → (first_some (due_of s) es ≡ Some y → find (is_client (named_by y)) es ≡ Some c → count_by (is_client (named_by y)) es ≤ 1 → due_of s c ≡ Some y) → due_of s c ≡ Some y
    by (Some z) true due here at there rest = ap (due_of s) (sym (some_is e c there)) ∙ due ∙ at
    by (Some z) false due here at there rest = absurd (cc (sym here ∙ its_number e (named_by y) (names_of s e y (due ∙ at))))
    by None true due here at there rest = absurd (omega (arith, counted true here, count_one s es y at))
    by None false due here at there rest = rest at there (omega (arith, counted false here))

-- ---- it goes on, and no reply has begun

pub record IsUnbegun (s : State) (c : Client) (d : Decision) : Type 0 where
  pub going : c.is_closing ≡ false
  pub due : due_by_stage s c ≡ Some d

abbrev decision_at : State → Client → Bool → Option Decision
decision_at s c closing = elim (closing || s.is_stopped) [ true ↦ None | false ↦ due_by_stage s c ]

pub unbegun_by : (s : State) (c : Client) (n i : ℕ) (d : Decision) → due_of s c ≡ Some (Decide n i d) → IsUnbegun s c d
unbegun_by s c n i d = by_closing c.is_closing refl (due_cut s c)
  where
    by_stage : (o : Option Decision) → due_by_stage s c ≡ o → c.is_closing ≡ false → due_by c.number c.index None o ≡ Some (Decide n i d) → IsUnbegun s c d
    by_stage None is going at = absurd (cc at)
    by_stage (Some e) is going at =
        let same : Decide c.number c.index e ≡ Decide n i d = some_is (Decide c.number c.index e) (Decide n i d) at in
        let decided : e ≡ d = cc same in
        record { going = going; due = is ∙ ap (λ (x : Decision). Some x) decided }

    by_stopped : (b : Bool) → c.is_closing ≡ false → due_by c.number c.index None (elim b as (λ t. Option Decision) [ true ↦ None | false ↦ due_by_stage s c ]) ≡ Some (Decide n i d) → IsUnbegun s c d
    by_stopped true going at = absurd (cc at)
    by_stopped false going at = by_stage (due_by_stage s c) refl going at

    by_closing : (b : Bool) → c.is_closing ≡ b → (o : Option Cause) → due_by c.number c.index o (decision_at s c b) ≡ Some (Decide n i d) → IsUnbegun s c d
    by_closing b is (Some cause) at = absurd (cc at)
    by_closing true is None at = absurd (cc at)
    by_closing false is None at = by_stopped s.is_stopped is at

pub not_begun : (s : State) (c : Client) (d : Decision) → due_by_stage s c ≡ Some d → is_begun c ≡ false
not_begun s c d = by c.stage
  where
    reply_by : (r : Reply) (b : Bool) → r.has_begun ≡ b → (elim b as (λ t. Option Decision) [ true ↦ None | false ↦ give_up c.course (elim (has_lost_row s r) as (λ t. Option Decision) [ true ↦ decide s c | false ↦ None ]) ]) ≡ Some d → r.has_begun ≡ false
    reply_by r true is due = absurd (cc due)
    reply_by r false is due = is

    by : (stage : Stage)
        → (elim stage as (λ t. Option Decision) [
          | Undecided ↦ due_undecided s c
          | Waiting ↦ give_up c.course (elim (is_told c.brought) as (λ t. Option Decision) [ true ↦ decide s c | false ↦ None ])
          | Passing ↦ give_up c.course None
          | Answering r ↦ due_reply s c r
        ]) ≡ Some d → is_some_with (λ (r : Reply). r.has_begun) (elim stage as (λ t. Option Reply) [ Undecided ↦ None | Waiting ↦ None | Passing ↦ None | Answering r ↦ Some r ]) ≡ false
    by Undecided due = refl
    by Waiting due = refl
    by Passing due = refl
    by (Answering r) due = reply_by r r.has_begun refl due

-- ---- the client that is to be cut goes on till then

pub record IsCutFor (s : State) (c : Client) (cause : Cause) : Type 0 where
  pub going : c.is_closing ≡ false
  pub cut : cut_in s c ≡ Some cause

pub cut_by : (s : State) (c : Client) (n : ℕ) (cause : Cause) → due_of s c ≡ Some (CutOff n cause) → IsCutFor s c cause
cut_by s c n cause = by_closing c.is_closing refl
  where
    by_decision : (o : Option Decision) → due_by c.number c.index None o ≡ Some (CutOff n cause) → IsCutFor s c cause
    by_decision None at = absurd (cc at)
    by_decision (Some d) at = absurd (cc at)

    by_cut : (o : Option Cause) → cut_in s c ≡ o → c.is_closing ≡ false → due_by c.number c.index o (due_decision s c) ≡ Some (CutOff n cause) → IsCutFor s c cause
    by_cut None is going at = by_decision (due_decision s c) at
    by_cut (Some other) is going at =
        let same : CutOff c.number other ≡ CutOff n cause = some_is (CutOff c.number other) (CutOff n cause) at in
        let one : other ≡ cause = cc same in
        record { going = going; cut = is ∙ ap (λ (x : Cause). Some x) one }

    by_closing : (b : Bool) → c.is_closing ≡ b → due_by c.number c.index (elim b as (λ t. Option Cause) [ true ↦ None | false ↦ cut_in s c ]) (due_decision s c) ≡ Some (CutOff n cause) → IsCutFor s c cause
    by_closing true is at = by_decision (due_decision s c) at
    by_closing false is at = by_cut (cut_in s c) refl is at

-- ---- the interim answer is expected as the law has it, unless memory was refused for its key

asked_expects : (a : Asked) (r : Parsed) → ShowsFront (IsThere a) (IsRequest r) → (refused_for a.refusal a.key ≡ Some 500 → ⊥) → a.expects_interim ≡ expects_interim r
asked_expects a r shows given = by shows.expects
  where
    by : ((is_ok r.key ≡ false) × (a.refusal ≡ Some 500)) ⊎ (a.expects_interim ≡ expects_interim r) → a.expects_interim ≡ expects_interim r
    by (inl refused) = absurd (given (ap (λ (o : Option ℕ). refused_for o a.key) refused.1))
    by (inr is) = is

pub expected : (front : SeatFront) (other : Front) → ShowsFront front other → (refused_in front ≡ Some 500 → ⊥) → expects_in (asked_in front) ≡ expects_of other
expected NoneYet NoHeadYet shows given = refl
expected (NoneThere status) (NoHead other) shows given = refl
expected (IsThere a) (IsRequest r) shows given = asked_expects a r shows given
expected front other shows given = absurd shows

-- ---- decisions are next

is_phase : (p : Phase) (s : State) → is_at p s ≡ true → s.phase ≡ p
is_phase p s at = sym (same_phase p s.phase at)

pub deciding_by : (s : State) (d : Due) → (is_at Deciding s || is_at DecidingAgain s) ≡ true → first_due s ≡ Some d → decides s ≡ true
deciding_by s d at first = by (is_at Deciding s) refl at
  where
    by : (b : Bool) → is_at Deciding s ≡ b → (b || is_at DecidingAgain s) ≡ true → decides s ≡ true
    by true here any = decides_due s d (is_phase Deciding s here) first
    by false here any = decides_again s (is_phase DecidingAgain s any)

pub past_rows : (s : State) → (is_at Deciding s || is_at DecidingAgain s) ≡ true → place_of Evicting < place_of s.phase
past_rows s at = by (is_at Deciding s) refl at
  where
    by : (b : Bool) → is_at Deciding s ≡ b → (b || is_at DecidingAgain s) ≡ true → place_of Evicting < place_of s.phase
    by true here any = subst (λ (p : Phase). place_of Evicting < place_of p) (sym (is_phase Deciding s here)) (omega arith)
    by false here any = subst (λ (p : Phase). place_of Evicting < place_of p) (sym (is_phase DecidingAgain s any)) (omega arith)
