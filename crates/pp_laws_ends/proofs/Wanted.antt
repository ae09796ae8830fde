-- Nothing stands in the wants but what may.
use Rattle.std.proofs.Common.{◌≡◌, ◌⊎◌, refl, ℕ, Bool, true, false, not, ◌==◌, ◌&&◌, ◌||◌, List, [], ◌∷◌, map, filter, inl, inr, sym, ap, ◌∙◌}
use Rattle.std.specs.List.{list_any, list_all}
use Rattle.pp_law.specs.Asking.{has_room}
use Rattle.pp_law.specs.Connections.{is_client, is_conn}
use Rattle.pp_law.specs.Offers.{has_to_say}
use Rattle.pp_law.specs.Requests.{has_request}
use Rattle.pp_law.specs.Served.{accepts, has_to_ask, may_read, may_write, same}
use Rattle.pp_law.specs.State.{State, Client, Conn}
use Rattle.pp_laws.specs.Runs.{IsIn}
use Rattle.pp_laws.proofs.Lists.{in_append, in_filter, in_map}
use Rattle.pp_laws.proofs.Tests.{first_holds, number_same}
use Rattle.pp_laws_ends.specs.Ends.{NothingMoreIsWanted, numbers_of, owes_body, reads_client, reads_conn, writes_conn}

-- ---- lists

pub all_of : {A : Type 0} (p : A → Bool) (xs : List A) → ((x : A) → IsIn x xs → p x ≡ true) → list_all p xs ≡ true
all_of p [] each = refl
all_of p (x ∷ xs) each = both (p x) (list_all p xs) (each x (inl refl)) (all_of p xs (λ y i. each y (inr i)))
  where
    both : (a b : Bool) → a ≡ true → b ≡ true → (a && b) ≡ true
    both true b is rest = rest
    both false b is rest = absurd (cc is)

pub or_true : (a b : Bool) → (a ≡ true) ⊎ (b ≡ true) → (a || b) ≡ true
or_true true b o = refl
or_true false b (inl is) = absurd (cc is)
or_true false b (inr is) = is

pub any_of : {A : Type 0} (p : A → Bool) (x : A) (xs : List A) → IsIn x xs → p x ≡ true → list_any p xs ≡ true
any_of p x [] i is = absurd i
any_of p x (y ∷ ys) (inl e) is = or_true (p y) (list_any p ys) (inl (ap p (sym e) ∙ is))
any_of p x (y ∷ ys) (inr i) is = or_true (p y) (list_any p ys) (inr (any_of p x ys i is))

pub and_true : (a b : Bool) → a ≡ true → b ≡ true → (a && b) ≡ true
and_true true b is more = more
and_true false b is more = absurd (cc is)

-- a number of theirs is that of a client or of a connection
pub of_one : (p : Client → Bool) (q : Conn → Bool) (s : State) (n : ℕ) → IsIn n (numbers_of p q s)
    → ((c : Client) × IsIn c s.clients × (p c ≡ true) × (n ≡ c.number)) ⊎ ((k : Conn) × IsIn k s.conns × (q k ≡ true) × (n ≡ k.number))
of_one p q s n i = by (in_append n (map (λ (c : Client). c.number) (filter p s.clients)) (map (λ (k : Conn). k.number) (filter q s.conns)) i)
  where
    by : IsIn n (map (λ (c : Client). c.number) (filter p s.clients)) ⊎ IsIn n (map (λ (k : Conn). k.number) (filter q s.conns))
        → ((c : Client) × IsIn c s.clients × (p c ≡ true) × (n ≡ c.number)) ⊎ ((k : Conn) × IsIn k s.conns × (q k ≡ true) × (n ≡ k.number))
    by (inl a) = let r = in_map (λ (c : Client). c.number) n (filter p s.clients) a in let w = in_filter p r.was s.clients r.there in inl (r.was, w.0, w.1, r.is)
    by (inr b) = let r = in_map (λ (k : Conn). k.number) n (filter q s.conns) b in let w = in_filter q r.was s.conns r.there in inr (r.was, w.0, w.1, r.is)

numbered : (m n : ℕ) → n ≡ m → (m == n) ≡ true
numbered m n is = ap (λ k. m == k) is ∙ number_same m

-- ---- wants

reads : (s : State) (n : ℕ) → IsIn n (numbers_of (reads_client s) (reads_conn s) s) → may_read s n ≡ true
reads s n i = by (of_one (reads_client s) (reads_conn s) s n i)
  where
    client_reads : (c : Client) → n ≡ c.number → reads_client s c ≡ true → (is_client n c && not c.has_hung_up && has_room c) ≡ true
    client_reads c is may =
        let front : (not c.has_hung_up && has_room c) ≡ true = first_holds (not c.has_hung_up && has_room c) (not (has_request c.front) || owes_body s c) may in
        three (is_client n c) (not c.has_hung_up) (has_room c) (numbered c.number n is) front
      where
        three : (a b d : Bool) → a ≡ true → (b && d) ≡ true → (a && b && d) ≡ true
        three true b d is rest = rest
        three false b d is rest = absurd (cc is)

    by : ((c : Client) × IsIn c s.clients × (reads_client s c ≡ true) × (n ≡ c.number)) ⊎ ((k : Conn) × IsIn k s.conns × (reads_conn s k ≡ true) × (n ≡ k.number)) → may_read s n ≡ true
    by (inl w) = or_true (list_any (λ c. is_client n c && not c.has_hung_up && has_room c) s.clients) (list_any (λ k. is_conn n k && k.is_reached) s.conns)
        (inl (any_of (λ c. is_client n c && not c.has_hung_up && has_room c) w.0 s.clients w.1 (client_reads w.0 w.3 w.2)))
    by (inr w) = or_true (list_any (λ c. is_client n c && not c.has_hung_up && has_room c) s.clients) (list_any (λ k. is_conn n k && k.is_reached) s.conns)
        (inr (any_of (λ k. is_conn n k && k.is_reached) w.0 s.conns w.1 (and_true (is_conn n w.0) w.0.is_reached (numbered w.0.number n w.3) (first_holds w.0.is_reached _ w.2))))

writes : (s : State) (n : ℕ) → IsIn n (numbers_of (has_to_say s) (writes_conn s) s) → may_write s n ≡ true
writes s n i = by (of_one (has_to_say s) (writes_conn s) s n i)
  where
    conn_writes : (k : Conn) → n ≡ k.number → writes_conn s k ≡ true → (is_conn n k && k.is_reached && has_to_ask s k) ≡ true
    conn_writes k is may = three (is_conn n k) k.is_reached (has_to_ask s k) (numbered k.number n is) may
      where
        three : (a b d : Bool) → a ≡ true → (b && d) ≡ true → (a && b && d) ≡ true
        three true b d is rest = rest
        three false b d is rest = absurd (cc is)

    by : ((c : Client) × IsIn c s.clients × (has_to_say s c ≡ true) × (n ≡ c.number)) ⊎ ((k : Conn) × IsIn k s.conns × (writes_conn s k ≡ true) × (n ≡ k.number)) → may_write s n ≡ true
    by (inl w) = or_true (list_any (λ c. is_client n c && has_to_say s c) s.clients) (list_any (λ k. is_conn n k && k.is_reached && has_to_ask s k) s.conns)
        (inl (any_of (λ c. is_client n c && has_to_say s c) w.0 s.clients w.1 (and_true (is_client n w.0) (has_to_say s w.0) (numbered w.0.number n w.3) w.2)))
    by (inr w) = or_true (list_any (λ c. is_client n c && has_to_say s c) s.clients) (list_any (λ k. is_conn n k && k.is_reached && has_to_ask s k) s.conns)
        (inr (any_of (λ k. is_conn n k && k.is_reached && has_to_ask s k) w.0 s.conns w.1 (conn_writes w.0 w.3 w.2)))

pub same_self : (t : Bool) → same t t ≡ true
same_self true = refl
same_self false = refl

pub nothing_more : NothingMoreIsWanted
nothing_more s = (
  same_self (accepts s),
  and_true (list_all (may_read s) (numbers_of (reads_client s) (reads_conn s) s)) (list_all (may_write s) (numbers_of (has_to_say s) (writes_conn s) s))
      (all_of (may_read s) (numbers_of (reads_client s) (reads_conn s) s) (λ n i. reads s n i)) (all_of (may_write s) (numbers_of (has_to_say s) (writes_conn s) s) (λ n i. writes s n i)),
)
