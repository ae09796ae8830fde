-- Who each open connection is, how many there are, and on whose side each stands in a list of them.
use Rattle.std.proofs.Common.{◌≡◌, ◌≢◌, ◌⊎◌, refl, ℕ, suc, ◌+◌, ◌≤◌, Bool, true, false, ◌||◌, List, [], ◌∷◌, ◌++◌, map, filter, find, cond, length, is_some, Some, inl, inr, ap, ap₂, ◌∙◌, sym, subst, length-append, All, AllPairs, arith}
use Rattle.pp_law.specs.Connections.{client}
use Rattle.pp_law.specs.Permits.{has_conn}
use Rattle.pp_law.specs.State.{State}
use Rattle.pp_laws.proofs.Lists.{in_map}
use Rattle.pp_laws.proofs.Sound.{client_number, conn_number, facts_of as sound_facts}
use Rattle.pp_laws.proofs.Tests.{same_number}
use Rattle.pp_laws.specs.Numbers.{AreDistinct}
use Rattle.pp_laws.specs.Runs.{IsIn}
use Rattle.pp_laws_bounds.proofs.Counts.{length-map}
use Rattle.pp_laws_bounds.proofs.Pigeons.{pigeons}
use Rattle.pp_laws_ends.proofs.Apart.{numbers_apart}
use Rattle.pp_laws_turn.proofs.Lifts.{sound_on}
use Rattle.pp_links.specs.Links.{IsLinked, Link, has_link, is_link}
use Rattle.pp_world.specs.Connections.{side_of}
use Rattle.pp_world.specs.Log.{Log}
use Rattle.pp_world.specs.declared.event.Side.{Side}
use Rattle.pp_world.specs.declared.event.Side.TheVariants.{Client as OfClient, Origin}
use Rattle.pp_laws_sides.proofs.Numbers.{has_in, in_has, has_none, there_is}
use Rattle.pp_laws_sides.proofs.Open.{sides_are}
use Rattle.pp_laws_sides.specs.Linked.{LinksAreFew, LinksAreOnTheirSides, NumbersRise, OpenClientsAreThere, OpenOriginsAreThere, OwnOnesAreOpen}
use Rattle.pp_laws_sides.specs.Sides.{side_by, side_in}

-- ---- who each is

an_origin : (c k : Bool) → side_by c k ≡ Some Origin → k ≡ true
an_origin true k is = absurd (cc is)
an_origin false true is = refl
an_origin false false is = absurd (cc is)

a_client : (c k : Bool) → side_by c k ≡ Some OfClient → c ≡ true
a_client true k is = refl
a_client false true is = absurd (cc is)
a_client false false is = absurd (cc is)

pub origins_there : OpenOriginsAreThere
origins_there terms s log obeys n is = an_origin (is_some (client s n)) (has_conn s n) (sym (sides_are terms s log obeys n) ∙ is)

pub clients_there : OpenClientsAreThere
clients_there terms s log obeys n is = a_client (is_some (client s n)) (has_conn s n) (sym (sides_are terms s log obeys n) ∙ is)

side_at : (c k : Bool) → c ≡ true → side_by c k ≡ Some OfClient
side_at c k is = ap (λ t. side_by t k) is

side_off : (c k : Bool) → c ≡ false → k ≡ true → side_by c k ≡ Some Origin
side_off c k isnt is = ap₂ side_by isnt is

pub own_open : OwnOnesAreOpen
own_open terms s log obeys = record {
  clients = λ c i. sides_are terms s log obeys c.number ∙ side_at (is_some (client s c.number)) (has_conn s c.number) (there_is client_number c.number s.clients ∙ in_has client_number c.number s.clients c i refl);
  conns = λ k i. sides_are terms s log obeys k.number ∙ side_off (is_some (client s k.number)) (has_conn s k.number)
      (there_is client_number k.number s.clients ∙ has_none client_number k.number s.clients (λ c j number. numbers_apart terms s log obeys c k j i number))
      (there_is conn_number k.number s.conns ∙ in_has conn_number k.number s.conns k i refl);
}

-- ---- numbers

pub numbers_rise : NumbersRise
numbers_rise terms s log obeys =
    let so = sound_facts (sound_on terms s log obeys) in
    record { clients_rise = so.callers.rise; clients_given = so.callers.given; conns_rise = so.lines.rise; conns_given = so.lines.given; apart = numbers_apart terms s log obeys }

-- ---- lists by index, and by what is in them

all_in : {A : Type 0} (P : A → Type 0) (xs : List A) (x : A) → All P xs → IsIn x xs → P x
all_in P [] x all i = absurd i
all_in P (y ∷ ys) x all (inl e) = subst P (sym e) (all 0 y (omega arith))
all_in P (y ∷ ys) x all (inr i) = all_in P ys x (λ k d within. all (suc k) d (omega (arith, within))) i

abbrev link_number : Link → ℕ
link_number link = link.0

differ : (links : List Link) → AllPairs (λ one other. one.0 ≢ other.0) links → AreDistinct (map link_number links)
differ [] apart = tt
differ (link ∷ links) apart = (alone, differ links (λ i j d lt within. apart (suc i) (suc j) d (omega (arith, lt)) (omega (arith, within))))
  where
    others : All (λ (other : Link). link.0 ≢ other.0) links
    others k d within = apart 0 (suc k) d (omega arith) (omega (arith, within))

    alone : IsIn link.0 (map link_number links) → ⊥
    alone i = let w = in_map link_number link.0 links i in all_in (λ (other : Link). link.0 ≢ other.0) links w.was others w.there w.is

-- ---- they are few

all_pass : {A : Type 0} (xs : List A) → filter (λ (x : A). true) xs ≡ xs
all_pass [] = refl
all_pass (x ∷ xs) = ap (λ ys. x ∷ ys) (all_pass xs)

some_side : (c k : Bool) (side : Side) → side_by c k ≡ Some side → (c ≡ true) ⊎ (k ≡ true)
some_side true k side is = inl refl
some_side false true side is = inr refl
some_side false false side is = absurd (cc is)

in_one : (n : ℕ) (ns ms : List ℕ) → IsIn n ns → IsIn n (ns ++ ms)
in_one n [] ms i = absurd i
in_one n (m ∷ ns) ms (inl e) = inl e
in_one n (m ∷ ns) ms (inr i) = inr (in_one n ns ms i)

in_other : (n : ℕ) (ns ms : List ℕ) → IsIn n ms → IsIn n (ns ++ ms)
in_other n [] ms i = i
in_other n (m ∷ ns) ms i = inr (in_other n ns ms i)

in_numbers : {A : Type 0} (num : A → ℕ) (n : ℕ) (x : A) (xs : List A) → IsIn x xs → num x ≡ n → IsIn n (map num xs)
in_numbers num n x [] i is = absurd i
in_numbers num n x (y ∷ ys) (inl e) is = inl (sym is ∙ ap num e)
in_numbers num n x (y ∷ ys) (inr i) is = inr (in_numbers num n x ys i is)

abbrev numbers_in : State → List ℕ
numbers_in s = map client_number s.clients ++ map conn_number s.conns

-- a number that is open is of the state
of_state : (s : State) (n : ℕ) (side : Side) → side_in s n ≡ Some side → IsIn n (numbers_in s)
of_state s n side is = by (some_side (is_some (client s n)) (has_conn s n) side is)
  where
    by : (is_some (client s n) ≡ true) ⊎ (has_conn s n ≡ true) → IsIn n (numbers_in s)
    by (inl there) = let w = has_in client_number n s.clients (sym (there_is client_number n s.clients) ∙ there) in in_one n (map client_number s.clients) (map conn_number s.conns) (in_numbers client_number n w.0 s.clients w.1 w.2)
    by (inr there) = let w = has_in conn_number n s.conns (sym (there_is conn_number n s.conns) ∙ there) in in_other n (map client_number s.clients) (map conn_number s.conns) (in_numbers conn_number n w.0 s.conns w.1 w.2)

open_in : (log : Log) (top : ℕ) (links : List Link) (link : Link) → IsLinked (Some log) top links → IsIn link links → side_of link.0 log ≡ Some link.1
open_in log top links link linked i = all_in (λ (x : Link). side_of x.0 log ≡ Some x.1) links link (linked.opened.at log refl) i

pub links_few : LinksAreFew
links_few terms s log top links obeys linked =
    let le : length (filter (λ (link : Link). true) links) ≤ length (numbers_in s) = pigeons link_number (λ (n : ℕ). Some n) (λ (link : Link). true) links (numbers_in s) (differ links linked.apart)
    (λ link i is. (link.0, of_state s link.0 link.1 (sym (sides_are terms s log obeys link.0) ∙ open_in log top links link linked i), refl)) in
    let all : length (filter (λ (link : Link). true) links) ≡ length links = ap (λ (ls : List Link). length ls) (all_pass links) in
    let both : length (numbers_in s) ≡ length (map client_number s.clients) + length (map conn_number s.conns) = length-append (map client_number s.clients) (map conn_number s.conns) in
    let clients : length (map client_number s.clients) ≡ length s.clients = length-map client_number s.clients in
    let conns : length (map conn_number s.conns) ≡ length s.conns = length-map conn_number s.conns in
    omega arith

-- ---- on their sides

record Found (n : ℕ) (links : List Link) : Type 0 where
  link : Link
  there : IsIn link links
  number : link.0 ≡ n
  first : find (is_link n) links ≡ Some link

found : (n : ℕ) (links : List Link) → has_link n links ≡ true → Found n links
found n [] is = absurd (cc is)
found n (link ∷ links) is = by (is_link n link) refl is (λ rest. found n links rest)
  where
    by : (b : Bool) → is_link n link ≡ b → (b || has_link n links) ≡ true → (has_link n links ≡ true → Found n links) → Found n (link ∷ links)
    by true at has rest = record { link = link; there = inl refl; number = same_number link.0 n at; first = ap (λ t. cond t (Some link) (find (is_link n) links)) at }
    by false at has rest = let r = rest has in record { link = r.link; there = inr r.there; number = r.number; first = ap (λ t. cond t (Some link) (find (is_link n) links)) at ∙ r.first }

on_side : (log : Log) (top : ℕ) (links : List Link) (n : ℕ) (side : Side) → IsLinked (Some log) top links → has_link n links ≡ true → side_of n log ≡ Some side → find (is_link n) links ≡ Some (n, side)
on_side log top links n side linked has is =
    let w = found n links has in
    let stands : side_of n log ≡ Some w.link.1 = ap (λ (m : ℕ). side_of m log) (sym w.number) ∙ open_in log top links w.link linked w.there in
    w.first ∙ ap (λ (link : Link). Some link) (ap₂ of w.number (some_same w.link.1 side (sym stands ∙ is)))
  where
    of : ℕ → Side → Link
    of m whose = (m, whose)

    some_same : (x y : Side) → Some x ≡ Some y → x ≡ y
    some_same x y is = cc

pub on_sides : LinksAreOnTheirSides
on_sides terms s log top links obeys linked =
    let open_ones = own_open terms s log obeys in
    record {
      clients = λ c i has. on_side log top links c.number OfClient linked has (open_ones.clients c i);
      conns = λ k i has. on_side log top links k.number Origin linked has (open_ones.conns k i);
    }
