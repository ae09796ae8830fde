-- What is no part of the exchanges may change.
use Rattle.std.proofs.Common.{◌≡◌, refl, sym, subst, ap, ◌∙◌, ℕ, Bool, true, false, not, ◌==◌, cond, find, List, [], ◌∷◌, ◌++◌, filter, Option, Some, None, option_map}
use Rattle.pp_cache_law.proofs.Finds.{find_joined, find_kept, find_mapped, find_out, find_passes, first_of_two}
use Rattle.pp_cache_law.proofs.PairLemmas.{joined_none}
use Rattle.pp_cache_law.specs.Pairs.{AreAll, AreBoth}
use Rattle.pp_flow.specs.Changes.{entry_of}
use Rattle.pp_law.specs.After.{out}
use Rattle.pp_law.specs.Connections.{conn, is_conn, is_exchange, on_conn}
use Rattle.pp_law.specs.State.{State, Conn, Exchange}
use Rattle.pp_seats_law.specs.Exchanges.{ShowsExchange}
use Rattle.pp_flow_law.specs.Frames.{ClosingsAreTheLaws, DialsAreTheLaws, DropsAreTheLaws, FramesAreTheLaws, emptied, still}
use Rattle.pp_flow_law.specs.Tables.{AreGiven, Leaving, has_none, line_at, line_in}
use Rattle.pp_flow_law.proofs.Ended.{not_so}
use Rattle.pp_flow_law.proofs.Entries.{off, other_way, same_number}
use Rattle.pp_flow_law.proofs.Exchanges.{numbers_of}

pub frames : FramesAreTheLaws
frames number l f s shows o t same = record {
  each = λ n. subst (λ (es : List Exchange). AreBoth (ShowsExchange number) (entry_of n f) (find (is_exchange n) es)) (sym same.exchanges) (shows.each n);
  waiting = subst (λ (es : List Exchange). AreAll (ShowsExchange number) f.waiting (filter has_none es)) (sym same.exchanges) shows.waiting;
  lines = λ n. shows.lines n ∙ sym (same.lines n);
  once = shows.once;
  begun = shows.begun ∙ sym same.next;
  given = subst (λ (es : List Exchange). AreGiven 0 t.next_exchange (numbers_of es)) (sym same.exchanges) (subst (λ (n : ℕ). AreGiven 0 n (numbers_of s.exchanges)) (sym same.next) shows.given);
}

pub dials : DialsAreTheLaws
dials number l f s shows k alone none = frames number l f s shows l (record s { conns = s.conns ++ k ∷ [] }) (record { exchanges = refl; next = refl; lines = λ n. ap (λ (ns : List ℕ). l n ++ ns) (same n) })
  where
    by : (n : ℕ) (o : Option Conn) (b : Bool) → conn s n ≡ o → (k.number == n) ≡ b → line_in (first_of_two o (cond b (Some k) None)) ≡ line_in o
    by n None true is at = none
    by n None false is at = refl
    by n (Some j) b is at = refl

    same : (n : ℕ) → line_at (record s { conns = s.conns ++ k ∷ [] }) n ≡ line_at s n
    same n = ap (λ (o : Option Conn). line_in o) (find_joined (is_conn n) s.conns (k ∷ [])) ∙ by n (conn s n) (is_conn n k) refl refl

-- of one connection nothing is left, and of the others all
left_one : (l : Leaving) (n m : ℕ) (b : Bool) (line before behind : List ℕ) → (m == n) ≡ b → (b ≡ true → behind ≡ []) → (b ≡ true → line ≡ before) → (b ≡ false → behind ≡ before) → still n line l m ++ behind ≡ l m ++ before
left_one l n m true line before behind is none same other =
    ap (λ (t : Bool). cond t (l m ++ line) (l m) ++ behind) is ∙ ap (λ (ns : List ℕ). (l m ++ line) ++ ns) (none refl) ∙ joined_none (l m ++ line) ∙ ap (λ (ns : List ℕ). l m ++ ns) (same refl)
left_one l n m false line before behind is none same other = ap (λ (t : Bool). cond t (l m ++ line) (l m) ++ behind) is ∙ ap (λ (ns : List ℕ). l m ++ ns) (other refl)

at_same : (s : State) (n m : ℕ) → (m == n) ≡ true → line_at s n ≡ line_at s m
at_same s n m is = ap (λ (i : ℕ). line_at s i) (sym (same_number m n is))

abbrev closed_at : ℕ → Conn → Conn
closed_at n j = elim (is_conn n j) as (λ b. Conn) [ true ↦ emptied j | false ↦ j ]

pub closings : ClosingsAreTheLaws
unfolding on_conn
closings number l f s shows n =
    frames number l f s shows (still n (line_at s n) l) (on_conn n emptied s)
    (record { exchanges = refl; next = refl; lines = λ m. left_one l n m (m == n) (line_at s n) (line_at s m) (line_at (on_conn n emptied s) m) refl (gone m) (at_same s n m) (kept m) })
  where
    number_kept : (m : ℕ) (j : Conn) (b : Bool) → is_conn m (elim b as (λ c. Conn) [ true ↦ emptied j | false ↦ j ]) ≡ is_conn m j
    number_kept m j true = refl
    number_kept m j false = refl

    mapped : (m : ℕ) → line_at (on_conn n emptied s) m ≡ line_in (option_map (closed_at n) (conn s m))
    mapped m = ap (λ (o : Option Conn). line_in o) (find_mapped (is_conn m) (closed_at n) s.conns (λ j. number_kept m j (is_conn n j)))

    one : (m : ℕ) (b : Bool) (j : Conn) → is_conn n j ≡ b → (b ≡ true → line_in (Some (elim b as (λ c. Conn) [ true ↦ emptied j | false ↦ j ])) ≡ []) × (b ≡ false → line_in (Some (elim b as (λ c. Conn) [ true ↦ emptied j | false ↦ j ])) ≡ j.line)
    one m true j is = ((λ e. refl), (λ e. absurd cc))
    one m false j is = ((λ e. absurd cc), (λ e. refl))

    gone_in : (m : ℕ) (o : Option Conn) → conn s m ≡ o → (m == n) ≡ true → line_in (option_map (closed_at n) o) ≡ []
    gone_in m None is e = refl
    gone_in m (Some j) is e = (one m (is_conn n j) j refl).0 (subst (λ (i : ℕ). is_conn i j ≡ true) (same_number m n e) (find_passes (is_conn m) s.conns j is))

    kept_in : (m : ℕ) (o : Option Conn) → conn s m ≡ o → (m == n) ≡ false → line_in (option_map (closed_at n) o) ≡ line_in o
    kept_in m None is e = refl
    kept_in m (Some j) is e = (one m (is_conn n j) j refl).1 (off j.number n m (find_passes (is_conn m) s.conns j is) (other_way m n e))

    gone : (m : ℕ) → (m == n) ≡ true → line_at (on_conn n emptied s) m ≡ []
    gone m e = mapped m ∙ gone_in m (conn s m) refl e

    kept : (m : ℕ) → (m == n) ≡ false → line_at (on_conn n emptied s) m ≡ line_at s m
    kept m e = mapped m ∙ kept_in m (conn s m) refl e

pub drops : DropsAreTheLaws
unfolding out
drops number l f s shows n =
    frames number l f s shows (still n (line_at s n) l) (out n s)
    (record { exchanges = refl; next = refl; lines = λ m. left_one l n m (m == n) (line_at s n) (line_at s m) (line_at (out n s) m) refl (gone m) (at_same s n m) (kept m) })
  where
    gone : (m : ℕ) → (m == n) ≡ true → line_at (out n s) m ≡ []
    gone m e = ap (λ (o : Option Conn). line_in o) (find_out (is_conn m) (λ j. not (is_conn n j)) s.conns (λ j so. subst (λ (i : ℕ). is_conn i j ≡ false) (sym (same_number m n e)) (not_so (is_conn n j) so)))

    kept : (m : ℕ) → (m == n) ≡ false → line_at (out n s) m ≡ line_at s m
    kept m e = ap (λ (o : Option Conn). line_in o) (find_kept (is_conn m) (λ j. not (is_conn n j)) s.conns (λ j so. ap not (off j.number n m so (other_way m n e))))
