-- Where an attempt is lost, connections stay, and who goes on does.
use Rattle.std.proofs.Common.{◌≡◌, ◌≤◌, ◌⊎◌, inl, inr, refl, sym, subst, ap, ◌∙◌, ℕ, Bool, true, false, cond, find, List, [], ◌∷◌, Some, Option}
use Rattle.std.specs.Prelude.{count_by}
use Rattle.pp_cache_law.proofs.Numbers.{some_is}
use Rattle.pp_turns_law.specs.Sides.{AreOrderly, MayClose}
use Rattle.pp_flow_law.proofs.Entries.{none_some}
use Rattle.pp_law.specs.Closing.{left_alone}
use Rattle.pp_law.specs.Connections.{attempts_of, charge, exchange, give_up_row, is_client, is_conn, is_exchange, is_unfilled, lose_attempt, lost_one, on_client_of, on_exchange, without_row}
use Rattle.pp_law.specs.Lists.{change, is_some_with}
use Rattle.pp_law.specs.State.{State, Client, Conn, Exchange, Passed}
use Rattle.pp_law.specs.Table.{clear, swept}
use Rattle.pp_states_law.proofs.Charged.{lost_given}
use Rattle.pp_states_law.proofs.Paid.{Before, Stays, charge_stays}
use Rattle.pp_states_law.specs.Charges.{GoesOn}
use Rattle.pp_states_law.specs.Losses.{IsComing}
use Rattle.pp_target.specs.Key.{text_of}

-- ---- one that is somebody's was there before

still_its : (n m a : ℕ) (d : Exchange) (es : List Exchange) → find (is_exchange m) (change (is_exchange n) left_alone es) ≡ Some d → d.asker ≡ Some a → find (is_exchange m) es ≡ Some d
still_its n m a d [] found asks = absurd (none_some d found)
still_its n m a d (e ∷ es) found asks = by (is_exchange n e) found (still_its n m a d es)
  where
    at : (c : Bool) → is_exchange m e ≡ c → cond c (Some (left_alone e)) (find (is_exchange m) (change (is_exchange n) left_alone es)) ≡ Some d
        → (find (is_exchange m) (change (is_exchange n) left_alone es) ≡ Some d → d.asker ≡ Some a → find (is_exchange m) es ≡ Some d) → cond c (Some e) (find (is_exchange m) es) ≡ Some d
    at true is one rest = absurd (none_some a (ap (λ (x : Exchange). x.asker) (some_is (left_alone e) d one) ∙ asks))
    at false is later rest = rest later asks

    other : (c : Bool) → cond c (Some e) (find (is_exchange m) (change (is_exchange n) left_alone es)) ≡ Some d
        → (find (is_exchange m) (change (is_exchange n) left_alone es) ≡ Some d → d.asker ≡ Some a → find (is_exchange m) es ≡ Some d) → cond c (Some e) (find (is_exchange m) es) ≡ Some d
    other true one rest = one
    other false later rest = rest later asks

    by : (b : Bool) → find (is_exchange m) ((elim b as (λ t. Exchange) [ true ↦ left_alone e | false ↦ e ]) ∷ change (is_exchange n) left_alone es) ≡ Some d
        → (find (is_exchange m) (change (is_exchange n) left_alone es) ≡ Some d → d.asker ≡ Some a → find (is_exchange m) es ≡ Some d) → find (is_exchange m) (e ∷ es) ≡ Some d
    by true one rest = at (is_exchange m e) refl one rest
    by false one rest = other (is_exchange m e) one rest

abbrev AreCounted : List Conn → Type 0
AreCounted ks = (n : ℕ) → count_by (is_conn n) ks ≤ 1

abbrev AreLeftOf : ℕ → State → State → Type 0
AreLeftOf n s t = (t.exchanges ≡ s.exchanges) ⊎ (t.exchanges ≡ change (is_exchange n) left_alone s.exchanges)

lost_exchanges : (e : Exchange) (s : State) → AreLeftOf e.number s (lose_attempt e s)
unfolding lose_attempt charge give_up_row on_exchange on_client_of clear swept
lost_exchanges e s = by (is_unfilled (on_client_of e (λ c. record c { course = lost_one (attempts_of e) c.course }) s) e)
  where
    by : (b : Bool) → AreLeftOf e.number s (elim b as (λ t. State) [
      | false ↦ on_client_of e (λ c. record c { course = lost_one (attempts_of e) c.course }) s
      | true ↦ on_exchange e.number left_alone (on_client_of e without_row (clear (text_of e.key) (on_client_of e (λ c. record c { course = lost_one (attempts_of e) c.course }) s)))
    ])
    by false = inl refl
    by true = inr refl

its_before : (e : Exchange) (s : State) (m a : ℕ) (d : Exchange) → exchange (lose_attempt e s) m ≡ Some d → d.asker ≡ Some a → exchange s m ≡ Some d
its_before e s m a d there asks = by (lost_exchanges e s)
  where
    by : AreLeftOf e.number s (lose_attempt e s) → exchange s m ≡ Some d
    by (inl same) = sym (ap (λ (es : List Exchange). find (is_exchange m) es) same) ∙ there
    by (inr left) = still_its e.number m a d s.exchanges (sym (ap (λ (es : List Exchange). find (is_exchange m) es) left) ∙ there) asks

-- ---- all of it

stays : (e : Exchange) (s : State) → exchange s e.number ≡ Some e → Stays s (lose_attempt e s) e.number e
unfolding lose_attempt
stays e s there = charge_stays (lost_one (attempts_of e)) s e e.number (lost_given (attempts_of e)) there refl

pub attempt_conns : (e : Exchange) (s : State) → exchange s e.number ≡ Some e → (lose_attempt e s).conns ≡ s.conns
attempt_conns e s there = (stays e s there).follows.conns

pub attempt_may : (e : Exchange) (s : State) → exchange s e.number ≡ Some e → MayClose s → MayClose (lose_attempt e s)
attempt_may e s there may = record {
  apart = subst (λ (ks : List Conn). AreCounted ks) (sym (attempt_conns e s there)) may.apart;
  orderly = subst (λ (ks : List Conn). AreOrderly ks) (sym (attempt_conns e s there)) may.orderly;
  go = record {
    going = λ m d known a c asks found. goes a c d (was.follows.client a c found) (may.go.going m d (its_before e s m a d known asks) a) asks;
    coming = λ m d known a c asks found. comes a c d (was.follows.client a c found) (may.go.coming m d (its_before e s m a d known asks) a) asks;
  };
}
  where
    was : Stays s (lose_attempt e s) e.number e
    was = stays e s there

    goes : (a : ℕ) (c : Client) (d : Exchange) (b : Before s a c) → ((c : Client) → d.asker ≡ Some a → find (is_client a) s.clients ≡ Some c → GoesOn c) → d.asker ≡ Some a → GoesOn c
    goes a c d b on asks =
        let before : GoesOn b.before = on b.before asks b.there in
        record { going = b.closing ∙ before.going; given = b.given before.given }

    comes : (a : ℕ) (c : Client) (d : Exchange) (b : Before s a c) → ((c : Client) → d.asker ≡ Some a → find (is_client a) s.clients ≡ Some c → IsComing c) → d.asker ≡ Some a → IsComing c
    comes a c d b on asks = ap (λ (o : Option Passed). is_some_with (λ p. p.pipe.is_finished) o) b.passed ∙ on b.before asks b.there
