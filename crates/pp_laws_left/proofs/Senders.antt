-- The law: as a turn ends, whose body is waited for is there, did not hang up and has room.
use Rattle.std.proofs.Common.{◌≡◌, ◌⊎◌, refl, ℕ, zero, suc, ◌<◌, ◌≤◌, nat_lt, min, Bool, true, false, not, ◌&&◌, ◌||◌, List, [], ◌∷◌, drop, take, length, find, cond, Option, Some, None, inl, inr, sym, subst, ap, ◌∙◌, arith}
use Rattle.std.proofs.lemmas.Bool.Decides.{nat_tests}
use Rattle.pp_text.specs.Bytes.{is_empty}
use Rattle.pp_law.specs.Asking.{body_heard, left_to_ask}
use Rattle.pp_law.specs.Connections.{is_client, is_for, is_outstanding}
use Rattle.pp_law.specs.Lists.{Bytes, is_this}
use Rattle.pp_law.specs.Phases.{ending}
use Rattle.pp_law.specs.Requests.{has_request}
use Rattle.pp_law.specs.Served.{waits_for_body}
use Rattle.pp_law.specs.State.{State, Client, Exchange}
use Rattle.pp_laws.specs.Runs.{IsIn}
use Rattle.pp_laws.proofs.Lists.{in_find}
use Rattle.pp_laws.proofs.Sound.{facts_of as sound_facts}
use Rattle.pp_laws.proofs.Steps.{ending-sound}
use Rattle.pp_laws.proofs.Tests.{first_holds, number_same, same_number, second_holds}
use Rattle.pp_laws_coming.proofs.Facts.{Facts, IsTold}
use Rattle.pp_laws_coming.proofs.Laws.{coming_on}
use Rattle.pp_laws_coming.proofs.Phases.{ending-comes}
use Rattle.pp_laws_ends.proofs.Undecided.{ends_at}
use Rattle.pp_laws_served.proofs.Asks.{going_end, tended_end}
use Rattle.pp_laws_served.proofs.Tended.{facts_of as tended_facts}
use Rattle.pp_laws_turn.specs.SoundTurn.{HasAsker}
use Rattle.pp_laws_turn.proofs.Happenings.{ending-turn}
use Rattle.pp_laws_turn.proofs.Laws.{has_asker}
use Rattle.pp_laws_turn.proofs.Lifts.{turn_on}
use Rattle.pp_laws_turn.proofs.View.{facts_of as view_facts}
use Rattle.pp_obeys.proofs.Obeying.{obeys_good}
use Rattle.pp_laws_left.specs.Left.{IsSender, SendersAreThere}

-- ---- lists

none_found : {A : Type 0} (p : A → Bool) (x : A) (xs : List A) → find p xs ≡ None → IsIn x xs → p x ≡ true → ⊥
none_found p x [] none i is = absurd i
none_found p x (y ∷ ys) none i is = by (p y) refl none i (λ rest j. none_found p x ys rest j is)
  where
    by : (t : Bool) → p y ≡ t → cond t (Some y) (find p ys) ≡ None → (x ≡ y) ⊎ IsIn x ys → (find p ys ≡ None → IsIn x ys → ⊥) → ⊥
    by true at none_here here later = cc none_here
    by false at none_here (inl eq) later = let both : true ≡ false = sym is ∙ ap p eq ∙ at in cc both
    by false at none_here (inr j) later = later none_here j

taken_none : (k : ℕ) (xs : Bytes) → 0 < k → is_empty (take k xs) ≡ true → xs ≡ []
taken_none zero xs some none = let off : ⊥ = omega arith in absurd off
taken_none (suc k) [] some none = refl
taken_none (suc k) (x ∷ xs) some none = absurd (cc none)

some_of_both : (a b : ℕ) → nat_lt 0 a ≡ true → a ≤ b → 0 < min a b
some_of_both a b some le = grind (arith, nat_tests)

some_left : (a b : ℕ) → nat_lt 0 a ≡ true → a ≤ b → nat_lt 0 b ≡ true
some_left a b some le = grind (arith, nat_tests)

-- of whom something is left to answer
hung_not : (a b x y : Bool) → b ≡ false → y ≡ true → (a && not b && (not x || y)) ≡ false → a ≡ false
hung_not true true x y goes left off = absurd (cc goes)
hung_not true false true true goes left off = absurd (cc off)
hung_not true false true false goes left off = absurd (cc left)
hung_not true false false y goes left off = absurd (cc off)
hung_not false b x y goes left off = refl

-- ---- the law

sender_at : (u : State) (e : Exchange) (c : Client) → IsIn c u.clients → is_for e c ≡ true → ((d : Client) → IsIn d u.clients → is_for e d ≡ true → d ≡ c) → e.body_left ≤ c.body_left → c.is_closing ≡ false
    → (c.has_hung_up && not c.is_closing && (not (has_request c.front) || nat_lt (length c.heard) c.body_left)) ≡ false → waits_for_body u e ≡ true → IsSender u e
sender_at u e c i its one le goes over waits = record {
  sender = c;
  there = i;
  its = its;
  stays = hung_not c.has_hung_up c.is_closing (has_request c.front) (nat_lt (length c.heard) c.body_left) goes (ap (λ (xs : Bytes). nat_lt (length xs) c.body_left) heard ∙ some_left e.body_left c.body_left left le) over;
  room = ap (λ (xs : Bytes). nat_lt (length xs) 16384) heard;
}
  where
    out : (is_outstanding e && nat_lt 0 e.body_left) ≡ true
    out = first_holds (is_outstanding e && nat_lt 0 e.body_left) (is_empty (left_to_ask u e)) waits

    left : nat_lt 0 e.body_left ≡ true
    left = second_holds (is_outstanding e) (nat_lt 0 e.body_left) out

    none : is_empty (body_heard u e) ≡ true
    none = ap (λ b. is_empty (elim b as (λ x. Bytes) [ false ↦ drop e.asked e.text | true ↦ body_heard u e ])) (sym (first_holds (is_outstanding e) (nat_lt 0 e.body_left) out)) ∙ second_holds (is_outstanding e && nat_lt 0 e.body_left) (is_empty (left_to_ask u e)) waits

    heard : c.heard ≡ []
    heard = by (find (is_for e) u.clients) refl none
      where
        by : (o : Option Client) → find (is_for e) u.clients ≡ o → is_empty (elim o as (λ x. Bytes) [ None ↦ [] | Some d ↦ take (min e.body_left d.body_left) d.heard ]) ≡ true → c.heard ≡ []
        by None found is = absurd (none_found (is_for e) c u.clients found i its)
        by (Some d) found is =
            let w = in_find (is_for e) d u.clients found in
            let eq : d ≡ c = one d w.0 w.1 in
            taken_none (min e.body_left c.body_left) c.heard (some_of_both e.body_left c.body_left left le) (subst (λ (x : Client). is_empty (take (min e.body_left x.body_left) x.heard) ≡ true) eq is)

its_number : (m : ℕ) (o : Option ℕ) → is_this m o ≡ true → o ≡ Some m
its_number m None is = absurd (cc is)
its_number m (Some k) is = ap (λ x. Some x) (same_number k m is)

pub senders_are_there : SendersAreThere
unfolding ending
senders_are_there terms s log ends e n i asks waits = sender_at (ending s) e c there.0 its one told.left (going_end s (ends_at terms s log ends.obeys ends.early ends.may ends.runs) c there.0) ((tended_facts (tended_end terms s log ends.obeys)).over refl c there.0) waits
  where
    a : HasAsker (ending s) e n
    a = has_asker (ending s) (sound_facts (ending-sound s (obeys_good ends.obeys).sound)).callers.rise (view_facts (ending-turn s (turn_on terms s log ends.obeys))) e n i asks

    c : Client
    c = a.asker

    there : IsIn a.asker (ending s).clients × (is_client n a.asker ≡ true)
    there = in_find (is_client n) a.asker (ending s).clients a.there

    number : a.asker.number ≡ n
    number = same_number a.asker.number n there.1

    f : Facts false None (ending s).clients (ending s).exchanges (ending s).next_exchange (ending s).instances (ending s).next_instance
    f = view_facts (ending-comes s (coming_on terms s log ends.obeys))

    told : IsTold (ending s).instances e a.asker
    told = f.told e n a.asker i there.0 asks number (λ none. cc none)

    its : is_for e a.asker ≡ true
    its = ap (is_this a.asker.number) (asks ∙ ap (λ k. Some k) (sym number)) ∙ number_same a.asker.number

    one : (d : Client) → IsIn d (ending s).clients → is_for e d ≡ true → d ≡ a.asker
    one d j hit = let same : Some d.number ≡ Some n = sym (its_number d.number e.asker hit) ∙ asks in let eq : d.number ≡ n = cc same in f.callers d a.asker j there.0 (eq ∙ sym number)
