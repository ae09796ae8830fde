-- What is done to each client, one behind the other, where it changes one alone.
use Rattle.std.proofs.Common.{◌≡◌, refl, sym, subst, ap, ◌∙◌, ℕ, Bool, true, false, not, cond, ◌==◌, ◌&&◌, ◌||◌, find, map, List, [], ◌∷◌, Option, Some, None}
use Rattle.std.specs.Prelude.{⊤}
use Rattle.pp_client.specs.Replies.{is_said}
use Rattle.pp_law.specs.Closing.{close_client}
use Rattle.pp_law.specs.Connections.{client, each_client, is_client}
use Rattle.pp_law.specs.Lists.{Bytes, change, has_number}
use Rattle.pp_law.specs.Replies.{close_finished, end_replies, end_reply, end_said, is_finished, is_said as is_over}
use Rattle.pp_law.specs.State.{State, Client}
use Rattle.pp_laws.proofs.Tests.{same_number}
use Rattle.pp_seats.specs.declared.seat.Seat.{Seat}
use Rattle.pp_seats_law.specs.Clients.{AreShown}
use Rattle.pp_seats_law.specs.Seats.{ShowsSeat}
use Rattle.pp_seats_law.proofs.Dues.{finished}
use Rattle.pp_seats_law.proofs.SaidWhole.{ends_same}
use Rattle.pp_clients_obey.specs.Ending.{AreSettledBut, IsSettled}

-- ---- the client of a number

number_of : (c : Client) (n m : ℕ) (b : Bool) → is_client m c ≡ true → (m == n) ≡ b → (c.number == n) ≡ b
number_of c n m b is same = ap (λ (k : ℕ). k == n) (same_number c.number m is) ∙ same

-- the first of that number, or one behind it
pub found_in : (f : Client → Client) → ((x : Client) → (f x).number ≡ x.number) → (n : ℕ) (cs : List Client) (c : Client) → find (is_client n) cs ≡ Some c → find (is_client n) (change (is_client n) f cs) ≡ Some (f c)
found_in f kept n [] c found = absurd (cc found)
found_in f kept n (x ∷ cs) c found = by (λ isnt. found_in f kept n cs c (sym (ap (λ (b : Bool). cond b (Some x) (find (is_client n) cs)) isnt) ∙ found)) (is_client n x) refl
  where
    rest : Option Client
    rest = find (is_client n) (change (is_client n) f cs)

    by : (is_client n x ≡ false → find (is_client n) (change (is_client n) f cs) ≡ Some (f c)) → (b : Bool) → is_client n x ≡ b → find (is_client n) (change (is_client n) f (x ∷ cs)) ≡ Some (f c)
    by more true is =
        let same : x ≡ c = let e : Some x ≡ Some c = sym (ap (λ (b : Bool). cond b (Some x) (find (is_client n) cs)) is) ∙ found in cc e in
        ap (λ (b : Bool). cond (is_client n (elim b as (λ y. Client) [ true ↦ f x | false ↦ x ])) (Some (elim b as (λ y. Client) [ true ↦ f x | false ↦ x ])) rest) is
        ∙ ap (λ (b : Bool). cond b (Some (f x)) rest) (ap (λ (k : ℕ). k == n) (kept x) ∙ is) ∙ ap (λ (y : Client). Some (f y)) same
    by more false isnt =
        ap (λ (b : Bool). cond (is_client n (elim b as (λ y. Client) [ true ↦ f x | false ↦ x ])) (Some (elim b as (λ y. Client) [ true ↦ f x | false ↦ x ])) rest) isnt
        ∙ ap (λ (b : Bool). cond b (Some x) rest) isnt ∙ more isnt

-- its number is among all
pub is_among : (n : ℕ) (cs : List Client) (c : Client) → find (is_client n) cs ≡ Some c → has_number n (map (λ (x : Client). x.number) cs) ≡ true
is_among n [] c found = absurd (cc found)
is_among n (x ∷ cs) c found = by (λ isnt. is_among n cs c (sym (ap (λ (b : Bool). cond b (Some x) (find (is_client n) cs)) isnt) ∙ found)) (is_client n x) refl
  where
    by : (is_client n x ≡ false → has_number n (map (λ (y : Client). y.number) cs) ≡ true) → (b : Bool) → is_client n x ≡ b → has_number n (map (λ (y : Client). y.number) (x ∷ cs)) ≡ true
    by more true is = ap (λ (b : Bool). b || has_number n (map (λ (y : Client). y.number) cs)) is
    by more false isnt = ap (λ (b : Bool). b || has_number n (map (λ (y : Client). y.number) cs)) isnt ∙ more isnt

-- one change behind the other
pub change_twice : (f g : Client → Client) → ((x : Client) → (f x).number ≡ x.number) → (n : ℕ) (cs : List Client) → change (is_client n) g (change (is_client n) f cs) ≡ change (is_client n) (λ x. g (f x)) cs
change_twice f g kept n [] = refl
change_twice f g kept n (x ∷ cs) = ap (λ (y : Client). y ∷ change (is_client n) g (change (is_client n) f cs)) (by (is_client n x) refl) ∙ ap (λ (ys : List Client). both x ∷ ys) (change_twice f g kept n cs)
  where
    both : Client → Client
    both y = elim (is_client n y) [ true ↦ g (f y) | false ↦ y ]

    by : (b : Bool) → is_client n x ≡ b
        → (elim (is_client n (elim (is_client n x) as (λ z. Client) [ true ↦ f x | false ↦ x ])) as (λ z. Client) [ true ↦ g (elim (is_client n x) as (λ z. Client) [ true ↦ f x | false ↦ x ]) | false ↦ elim (is_client n x) as (λ z. Client) [ true ↦ f x | false ↦ x ] ])
        ≡ (elim (is_client n x) as (λ z. Client) [ true ↦ g (f x) | false ↦ x ])
    by true is =
        ap (λ (b : Bool). elim (is_client n (elim b as (λ z. Client) [ true ↦ f x | false ↦ x ])) as (λ z. Client) [ true ↦ g (elim b as (λ z. Client) [ true ↦ f x | false ↦ x ]) | false ↦ elim b as (λ z. Client) [ true ↦ f x | false ↦ x ] ]) is
        ∙ ap (λ (b : Bool). elim b as (λ z. Client) [ true ↦ g (f x) | false ↦ f x ]) (ap (λ (k : ℕ). k == n) (kept x) ∙ is)
        ∙ sym (ap (λ (b : Bool). elim b as (λ z. Client) [ true ↦ g (f x) | false ↦ x ]) is)
    by false isnt =
        ap (λ (b : Bool). elim (is_client n (elim b as (λ z. Client) [ true ↦ f x | false ↦ x ])) as (λ z. Client) [ true ↦ g (elim b as (λ z. Client) [ true ↦ f x | false ↦ x ]) | false ↦ elim b as (λ z. Client) [ true ↦ f x | false ↦ x ] ]) isnt
        ∙ ap (λ (b : Bool). elim b as (λ z. Client) [ true ↦ g x | false ↦ x ]) isnt
        ∙ sym (ap (λ (b : Bool). elim b as (λ z. Client) [ true ↦ g (f x) | false ↦ x ]) isnt)

-- ---- the others

-- nothing ends of it
pub record Rests (c : Client) : Type 0 where
  pub said : (is_over c && not c.is_closing) ≡ false
  pub finished : is_finished c ≡ false

abbrev pub AllRestBut : ℕ → List Client → Type 0
AllRestBut n [] = ⊤
AllRestBut n (c ∷ cs) = ((c.number == n) ≡ false → Rests c) × AllRestBut n cs

and_false : (b : Bool) → (b && false) ≡ false
and_false true = refl
and_false false = refl

pub not_over : (number : ℕ → ℕ) (name : Bytes) (owed : List Bytes) (seat : Seat) (c : Client) → ShowsSeat number name owed seat c → (seat.is_closing ≡ false → is_said seat.client.reply ≡ false) → (b : Bool) → c.is_closing ≡ b → (is_over c && not c.is_closing) ≡ false
not_over number name owed seat c shows said true is = ap (λ (b : Bool). is_over c && not b) is ∙ and_false (is_over c)
not_over number name owed seat c shows said false isnt = ap (λ (b : Bool). b && not c.is_closing) (sym (ends_same number name owed seat c (shows.going isnt)) ∙ said (shows.closing ∙ isnt))

pub rests : (number : ℕ → ℕ) (name : Bytes) (owed : List Bytes) (seat : Seat) (c : Client) → ShowsSeat number name owed seat c → IsSettled seat → Rests c
rests number name owed seat c shows settled = record { said = not_over number name owed seat c shows settled.said c.is_closing refl; finished = sym (finished number name owed seat c shows) ∙ settled.finished }

pub all_rest : (number : ℕ → ℕ) (name : Bytes) (owed : List Bytes) (seats : List Seat) (cs : List Client) (n : ℕ) → AreShown number name owed seats cs → AreSettledBut n seats → AllRestBut n cs
all_rest number name owed [] [] n shown settled = tt
all_rest number name owed [] (c ∷ cs) n shown settled = absurd shown
all_rest number name owed (seat ∷ seats) [] n shown settled = absurd shown
all_rest number name owed (seat ∷ seats) (c ∷ cs) n shown settled =
    (λ other. rests number name owed seat c shown.0 (settled.0 (ap (λ (k : ℕ). k == n) shown.0.number ∙ other)), all_rest number name owed seats cs n shown.1 settled.1)

true_not_false : true ≡ false → ⊥
true_not_false e = absurd (cc e)

pub change_rest : (f : Client → Client) → ((x : Client) → (f x).number ≡ x.number) → (n : ℕ) (cs : List Client) → AllRestBut n cs → AllRestBut n (change (is_client n) f cs)
change_rest f kept n [] all = tt
change_rest f kept n (x ∷ cs) all = (by (is_client n x) refl, change_rest f kept n cs all.1)
  where
    by : (b : Bool) → is_client n x ≡ b → ((elim (is_client n x) as (λ z. Client) [ true ↦ f x | false ↦ x ]).number == n) ≡ false → Rests (elim (is_client n x) as (λ z. Client) [ true ↦ f x | false ↦ x ])
    by true is other =
        absurd (true_not_false (sym (ap (λ (k : ℕ). k == n) (kept x) ∙ is) ∙ sym (ap (λ (b : Bool). (elim b as (λ z. Client) [ true ↦ f x | false ↦ x ]).number == n) is) ∙ other))
    by false isnt other = subst (λ (b : Bool). Rests (elim b as (λ z. Client) [ true ↦ f x | false ↦ x ])) (sym isnt) (all.0 isnt)

pub found_rests : (n m : ℕ) (cs : List Client) (c : Client) → AllRestBut n cs → find (is_client m) cs ≡ Some c → (m == n) ≡ false → Rests c
found_rests n m [] c all found other = absurd (cc found)
found_rests n m (x ∷ cs) c all found other = by (λ isnt. found_rests n m cs c all.1 (sym (ap (λ (b : Bool). cond b (Some x) (find (is_client m) cs)) isnt) ∙ found) other) (is_client m x) refl
  where
    by : (is_client m x ≡ false → Rests c) → (b : Bool) → is_client m x ≡ b → Rests c
    by more true is =
        let same : x ≡ c = let e : Some x ≡ Some c = sym (ap (λ (b : Bool). cond b (Some x) (find (is_client m) cs)) is) ∙ found in cc e in
        subst Rests same (all.0 (number_of x n m false is other))
    by more false isnt = more isnt

-- ---- one behind the other

-- what is done to that client leads there, and what is done to it then changes nothing more; nor is anything done to the others
pub record Changes (f : Client → State → State) (n : ℕ) (s t : State) : Type 0 where
  pub here : Client
  pub found : client s n ≡ Some here
  pub leads : f here s ≡ t
  pub now : Client
  pub again : client t n ≡ Some now
  pub stays : f now t ≡ t
  pub others : (m : ℕ) (x : Client) → (m == n) ≡ false → client s m ≡ Some x → f x s ≡ s
  pub others_then : (m : ℕ) (x : Client) → (m == n) ≡ false → client t m ≡ Some x → f x t ≡ t

step_by : (f : Client → State → State) (s t : State) (o p : Option Client) → o ≡ p → ((x : Client) → p ≡ Some x → f x s ≡ t) → (p ≡ None → s ≡ t) → (elim o as (λ c. State) [ None ↦ s | Some c ↦ f c s ]) ≡ t
step_by f s t o None is some none = ap (λ (q : Option Client). elim q as (λ c. State) [ None ↦ s | Some c ↦ f c s ]) is ∙ none refl
step_by f s t o (Some x) is some none = ap (λ (q : Option Client). elim q as (λ c. State) [ None ↦ s | Some c ↦ f c s ]) is ∙ some x refl

none_some : {A : Type 0} {x : A} → None ≡ Some x → ⊥
none_some e = absurd (cc e)

same_found : (o : Option Client) (x y : Client) → o ≡ Some x → o ≡ Some y → x ≡ y
same_found o x y one two = let e : Some x ≡ Some y = sym one ∙ two in cc e

-- from there on nothing changes
walk_on : (f : Client → State → State) (n : ℕ) (t : State) (now : Client) → client t n ≡ Some now → f now t ≡ t → ((m : ℕ) (x : Client) → (m == n) ≡ false → client t m ≡ Some x → f x t ≡ t) → (ns : List ℕ) → each_client f ns t ≡ t
unfolding each_client
walk_on f n t now again stays others [] = refl
walk_on f n t now again stays others (m ∷ ns) =
    ap (λ (u : State). each_client f ns u) (step_by f t t (client t m) (client t m) refl (λ x is. one x is (m == n) refl) (λ none. refl)) ∙ walk_on f n t now again stays others ns
  where
    one : (x : Client) → client t m ≡ Some x → (b : Bool) → (m == n) ≡ b → f x t ≡ t
    one x is true same =
        let there : client t n ≡ Some x = sym (ap (λ (k : ℕ). client t k) (same_number m n same)) ∙ is in
        ap (λ (y : Client). f y t) (same_found (client t n) x now there again) ∙ stays
    one x is false other = others m x other is

pub walk : (f : Client → State → State) (n : ℕ) (s t : State) → Changes f n s t → (ns : List ℕ) → has_number n ns ≡ true → each_client f ns s ≡ t
unfolding each_client
walk f n s t c [] has = absurd (cc has)
walk f n s t c (m ∷ ns) has = by (λ other. walk f n s t c ns (sym (ap (λ (b : Bool). b || has_number n ns) other) ∙ has)) (m == n) refl
  where
    by : ((m == n) ≡ false → each_client f ns s ≡ t) → (b : Bool) → (m == n) ≡ b → each_client f ns (elim (client s m) as (λ x. State) [ None ↦ s | Some x ↦ f x s ]) ≡ t
    by more true same =
        let there : client s m ≡ Some c.here = ap (λ (k : ℕ). client s k) (same_number m n same) ∙ c.found in
        ap (λ (u : State). each_client f ns u)
        (step_by f s t (client s m) (Some c.here) there (λ x is. ap (λ (y : Client). f y s) (same_found (Some c.here) x c.here is refl) ∙ c.leads) (λ none. absurd (none_some (sym none))))
        ∙ walk_on f n t c.now c.again c.stays c.others_then ns
    by more false other = ap (λ (u : State). each_client f ns u) (step_by f s s (client s m) (client s m) refl (λ x is. c.others m x other is) (λ none. refl)) ∙ more other

-- ---- replies that are over

pub end_none : (x : Client) (s : State) → (is_over x && not x.is_closing) ≡ false → end_said x s ≡ s
unfolding end_said
end_none x s isnt = ap (λ (b : Bool). elim b as (λ c. State) [ true ↦ end_reply x s | false ↦ s ]) isnt

pub end_one : (x : Client) (s : State) → (is_over x && not x.is_closing) ≡ true → end_said x s ≡ end_reply x s
unfolding end_said
end_one x s is = ap (λ (b : Bool). elim b as (λ c. State) [ true ↦ end_reply x s | false ↦ s ]) is

pub close_none : (x : Client) (s : State) → is_finished x ≡ false → close_finished x s ≡ s
unfolding close_finished
close_none x s isnt = ap (λ (b : Bool). elim b as (λ c. State) [ true ↦ close_client x.number false s | false ↦ s ]) isnt

pub close_one : (x : Client) (s : State) → is_finished x ≡ true → close_finished x s ≡ close_client x.number false s
unfolding close_finished
close_one x s is = ap (λ (b : Bool). elim b as (λ c. State) [ true ↦ close_client x.number false s | false ↦ s ]) is

-- the reply of one client ends, and it is closed, or neither
pub ends_by : (n : ℕ) (s t u : State) → Changes end_said n s t → Changes close_finished n t u → end_replies s ≡ u
unfolding end_replies
ends_by n s t u ends closes =
    let among : has_number n (map (λ (x : Client). x.number) s.clients) ≡ true = is_among n s.clients ends.here ends.found in
    ap (λ (v : State). each_client close_finished (map (λ (x : Client). x.number) s.clients) v) (walk end_said n s t ends (map (λ (x : Client). x.number) s.clients) among)
    ∙ walk close_finished n t u closes (map (λ (x : Client). x.number) s.clients) among
