-- A head came of the first exchange of a line alone, whose answer is under way, at each moment of a read.
use Rattle.std.proofs.Common.{◌≡◌, inl, inr, refl, sym, subst, ap, ◌∙◌, ℕ, Bool, true, false, ◌==◌, ◌||◌, List, [], ◌∷◌, Some, None}
use Rattle.pp_cache_law.proofs.Numbers.{is_same, some_is}
use Rattle.pp_law.specs.Connections.{exchange, front_of_line, is_conn, is_exchange}
use Rattle.pp_law.specs.Lists.{has_number}
use Rattle.pp_law.specs.Phases.{is_free}
use Rattle.pp_law.specs.Responses.{got}
use Rattle.pp_law.specs.State.{State, Conn, Exchange, Owed}
use Rattle.pp_laws.proofs.Lists.{in_find}
use Rattle.pp_laws.proofs.Sound.{first_of}
use Rattle.pp_laws.specs.Runs.{IsIn}
use Rattle.pp_laws_left.proofs.Keep.{owes}
use Rattle.pp_laws_left.proofs.Owned.{Owned, none_but}
use Rattle.pp_laws_left.proofs.OwnedCame.{got-owned}
use Rattle.pp_laws_left.proofs.OwnedEnds.{owned_on}
use Rattle.pp_laws_turn.proofs.View.{Holds, facts_of}
use Rattle.pp_reads_law.proofs.Fronts.{IsFront, is_front}
use Rattle.pp_given_law.specs.Pieces.{IsInLine, LinesAreAnswered, LinesAreAnsweredInReads}

in_numbers : (m : ℕ) (ns : List ℕ) → has_number m ns ≡ true → IsIn m ns
in_numbers m [] has = absurd (cc has)
in_numbers m (n ∷ ns) has = by (n == m) refl has (in_numbers m ns)
  where
    by : (b : Bool) → (n == m) ≡ b → (b || has_number m ns) ≡ true → (has_number m ns ≡ true → IsIn m ns) → IsIn m (n ∷ ns)
    by true is one rest = inl (sym (is_same n m is))
    by false is one rest = inr (rest one)

module _ {At : Type 0} (s : State) (h : Holds (Owned none_but At) s) where
  -- where it stands
  record Stands (n m : ℕ) (k : Conn) (e : Exchange) : Type 0 where
    on : IsIn k s.conns
    conn_number : k.number ≡ n
    among : IsIn e s.exchanges
    number : e.number ≡ m
    lined : IsIn e.number k.line

  stands : (n m : ℕ) (k : Conn) (e : Exchange) → IsInLine s n m k e → Stands n m k e
  stands n m k e i =
      let c = in_find (is_conn n) k s.conns i.conn_is in
      let d = in_find (is_exchange m) e s.exchanges i.known in
      let same : e.number ≡ m = is_same e.number m d.1 in
      record { on = c.0; conn_number = is_same k.number n c.1; among = d.0; number = same; lined = subst (λ (l : ℕ). IsIn l k.line) (sym same) (in_numbers m k.line i.has) }

  front_is : (k : Conn) (e : Exchange) → exchange s e.number ≡ Some e → (ns : List ℕ) → k.line ≡ ns → first_of ns ≡ Some e.number → front_of_line s k ≡ Some e
  front_is k e known [] line is = absurd (cc is)
  front_is k e known (m ∷ ns) line is = ap (λ (l : List ℕ). front_of_line s (record k { line = l })) line ∙ ap (λ (l : ℕ). exchange s l) (some_is m e.number is) ∙ known

  none_number : (l : ℕ) → None ≡ Some l → ⊥
  none_number l both = cc both

  pub owned_lines : LinesAreAnswered s
  owned_lines = record {
    first = λ n m k e i headed.
        let its : Stands n m k e = stands n m k e i in
        front_is k e (ap (λ (l : ℕ). exchange s l) its.number ∙ i.known) k.line refl ((facts_of h).behind k e its.on its.among its.lined headed).0;
    awaited = λ n m k e i headed. let its : Stands n m k e = stands n m k e i in ((facts_of h).behind k e its.on its.among its.lined headed).1;
    answers = λ n k a e there answer front.
        let one = (facts_of h).front k a (in_find (is_conn n) k s.conns there).0 (λ but. none_number k.number but) answer in
        let its : IsFront s k e = is_front s k e front in
        one.headed e (in_find (is_exchange e.number) e s.exchanges its.known).0 (some_is e.number one.number (sym (ap first_of its.line) ∙ one.first));
    one = λ i n m j k d e a b.
        let mine : Stands i m j d = stands i m j d a in
        let its : Stands n m k e = stands n m k e b in
        sym mine.conn_number ∙ (facts_of h).own j k e mine.on its.on its.among (subst (λ (l : ℕ). IsIn l j.line) (mine.number ∙ sym its.number) mine.lined) its.lined ∙ its.conn_number;
  }

pub lines_in_reads : LinesAreAnsweredInReads
lines_in_reads terms log n s obeys reading pieces bytes = owned_lines (got pieces n bytes s) (got-owned pieces n bytes s (owes (ap (λ (o : Owed). is_free o) reading)) (λ never. never) (owned_on terms s log obeys))
