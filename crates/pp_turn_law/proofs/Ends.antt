-- What the wait rests on, of the state in which a turn ends: how many clients and connections there are, and who may be asked.
use Rattle.std.proofs.Common.{◌≡◌, ◌≤◌, ◌⊎◌, inl, inr, refl, sym, subst, ap, ◌∙◌, ℕ, Bool, true, false, ◌==◌, ◌||◌, List, [], ◌∷◌, length, arith}
use Rattle.std.specs.List.{list_any}
use Rattle.pp_endings_law.specs.Waits.{MayBeAsked}
use Rattle.pp_law.specs.Connections.{is_exchange}
use Rattle.pp_law.specs.Lists.{has_number}
use Rattle.pp_law.specs.Phases.{ending}
use Rattle.pp_law.specs.Requests.{goes_alone, is_asked_once}
use Rattle.pp_law.specs.State.{State, Conn, Exchange, Term}
use Rattle.pp_laws.proofs.Lists.{in_find}
use Rattle.pp_laws.proofs.Steps.{ending-sound}
use Rattle.pp_laws.proofs.Tests.{same_number}
use Rattle.pp_laws.specs.Runs.{IsIn}
use Rattle.pp_laws_bounds.proofs.Kept.{facts_of as kept_facts}
use Rattle.pp_laws_bounds.proofs.Steps.{ending-kept}
use Rattle.pp_laws_turn.proofs.Happenings.{ending-turn}
use Rattle.pp_laws_turn.proofs.Laws.{told_apart}
use Rattle.pp_laws_turn.proofs.Lifts.{kept_on, sound_on, turn_on}
use Rattle.pp_laws_turn.proofs.View.{facts_of as turn_facts}
use Rattle.pp_obeys.specs.Obeys.{Obeys}
use Rattle.pp_pipe.specs.Authentication.{binds_connection}
use Rattle.pp_states_law.specs.Decisions.{AreApart}
use Rattle.pp_world.specs.Log.{Log}

number_in : (n : ℕ) (ns : List ℕ) → has_number n ns ≡ true → IsIn n ns
number_in n [] is = absurd (cc is)
number_in n (m ∷ ns) is = by (m == n) refl is (number_in n ns)
  where
    by : (t : Bool) → (m == n) ≡ t → (t || has_number n ns) ≡ true → (has_number n ns ≡ true → IsIn n ns) → IsIn n (m ∷ ns)
    by true same at rest = inl (sym (same_number m n same))
    by false other at rest = inr (rest at)

goes_on : (ks : List Conn) → list_any (λ (k : Conn). k.is_closing) ks ≡ false → (k : Conn) → IsIn k ks → k.is_closing ≡ false
goes_on [] none k i = absurd i
goes_on (j ∷ ks) none k i = by (λ off later. goes_on ks off k later) j.is_closing refl i none
  where
    by : (list_any (λ (x : Conn). x.is_closing) ks ≡ false → IsIn k ks → k.is_closing ≡ false) → (t : Bool) → j.is_closing ≡ t → (k ≡ j) ⊎ IsIn k ks → (t || list_any (λ (x : Conn). x.is_closing) ks) ≡ false → k.is_closing ≡ false
    by rest true is at off = absurd (cc off)
    by rest false is (inl same) off = ap (λ (x : Conn). x.is_closing) same ∙ is
    by rest false is (inr later) off = rest off later

one_line : (n : ℕ) (line : List ℕ) → length line ≤ 1 → IsIn n line → line ≡ n ∷ []
one_line n [] short i = absurd i
one_line n (m ∷ []) short (inl eq) = ap (λ (k : ℕ). k ∷ []) (sym eq)
one_line n (m ∷ []) short (inr i) = absurd i
one_line n (m ∷ k ∷ line) short i = absurd (omega arith)

-- a body is left of what is asked once alone
alone_with : (e : Exchange) → (e.body_left ≡ 0) ⊎ (is_asked_once e.head ≡ true) → (e.body_left == 0) ≡ false → goes_alone e.head ≡ true
alone_with e (inl none) left = let both : true ≡ false = sym (ap (λ (n : ℕ). n == 0) none) ∙ left in absurd (cc both)
alone_with e (inr once) left = ap (λ (b : Bool). b || binds_connection e.head.fields) once

module _ (terms : List Term) (s : State) (log : Log) (obeys : Obeys terms s log) where
  pub few_clients : length (ending s).clients ≤ 256
  few_clients = (kept_facts (ending-kept s (kept_on terms s log obeys))).few_clients

  -- no two connections have one number
  pub apart_there : AreApart (ending s)
  apart_there = (told_apart (ending s) (ending-sound s (sound_on terms s log obeys))).conns

  pub few_conns : length (ending s).conns ≤ 64
  few_conns = (kept_facts (ending-kept s (kept_on terms s log obeys))).lines.few

  -- nobody is closing there
  pub may_be_asked : list_any (λ (k : Conn). k.is_closing) (ending s).conns ≡ false → (k : Conn) → IsIn k (ending s).conns → MayBeAsked (ending s) k
  may_be_asked none k i = record {
    goes_on = goes_on (ending s).conns none k i;
    short = let few : length k.line ≤ 8 = (kept_facts (ending-kept s (kept_on terms s log obeys))).lines.short k i in omega (arith, few);
    alone = λ m e has is left.
        let t = turn_facts (ending-turn s (turn_on terms s log obeys)) in
        let there = in_find (is_exchange m) e (ending s).exchanges is in
        let number : e.number ≡ m = same_number e.number m there.1 in
        let line : IsIn e.number k.line = subst (λ (n : ℕ). IsIn n k.line) (sym number) (number_in m k.line has) in
        one_line e.number k.line (t.lined.alone k e i there.0 line (alone_with e (t.once e there.0).once left)) line ∙ ap (λ (n : ℕ). n ∷ []) number;
  }
