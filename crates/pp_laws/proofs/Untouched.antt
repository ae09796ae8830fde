-- What is done to rows and clients leaves connections and exchanges as they are.
use Rattle.std.proofs.Common.{◌≡◌, refl, ℕ, Bool, true, false, ◌&&◌, List, [], ◌∷◌, find, Option, Some, None, ap, ◌∙◌}
use Rattle.std.specs.Prelude.{nat_lt}
use Rattle.pp_fresh.specs.declared.aging.Times.{Times}
use Rattle.pp_head.specs.Response.{Response}
use Rattle.pp_target.specs.Key.{Key, text_of}
use Rattle.pp_text.specs.Fields.{Field}
use Rattle.pp_valid.specs.declared.version.Version.{Version}
use Rattle.pp_law.specs.Connections.{front_of_line, is_exchange, on_client_of}
use Rattle.pp_law.specs.Lists.{Bytes, is_some_with}
use Rattle.pp_law.specs.OwnHeads.{key_of, times_for, renewed, renew, renew_row, known_version, clears_row, cleared_by}
use Rattle.pp_law.specs.Responses.{bring_row, is_readable}
use Rattle.pp_law.specs.State.{State, Aim, Through, Own, Filling, Client, Conn, Exchange, Instance}
use Rattle.pp_law.specs.Table.{row, rows, row_on_disk, idle_row, on_instance, forget, swept, clear, mark_row, forget_row, with_room, add_row, make_row, enter}
use Rattle.pp_law.specs.ThroughHeads.{invalidates, key_named, is_same_host, clear_named, clear_each, places_named, invalidated, disproves, reads, disproved}

-- ---- what leaves connections and exchanges as they are

pub record Untouched (s t : State) : Type 0 where
  pub conns : t.conns ≡ s.conns
  pub exchanges : t.exchanges ≡ s.exchanges

pub untouched : (s : State) → Untouched s s
untouched s = record { conns = refl; exchanges = refl }

pub untouched_on : (s t u : State) → Untouched s t → Untouched t u → Untouched s u
untouched_on s t u one two = record { conns = two.conns ∙ one.conns; exchanges = two.exchanges ∙ one.exchanges }

untouched_when : (s : State) (t : Bool) {x y : State} → Untouched s x → Untouched s y → Untouched s (elim t as (λ c. State) [ true ↦ x | false ↦ y ])
untouched_when s true hx hy = hx
untouched_when s false hx hy = hy

untouched_each : {A : Type 0} (s : State) (o : Option A) {x : State} {y : A → State} → Untouched s x → ((a : A) → Untouched s (y a)) → Untouched s (elim o as (λ c. State) [ None ↦ x | Some a ↦ y a ])
untouched_each s None hx hy = hx
untouched_each s (Some a) hx hy = hy a

untouched_aim : (s : State) (a : Aim) {x y : State} {z : Version → ℕ → ℕ → State} → Untouched s x → Untouched s y → ((v : Version) (from to : ℕ) → Untouched s (z v from to))
    → Untouched s (elim a as (λ c. State) [ Through ↦ x | Own ↦ y | Filling v from to ↦ z v from to ])
untouched_aim s Through hx hy hz = hx
untouched_aim s Own hx hy hz = hy
untouched_aim s (Filling v from to) hx hy hz = hz v from to

pub on_client_of-untouched : (e : Exchange) (f : Client → Client) (s : State) → Untouched s (on_client_of e f s)
unfolding on_client_of
on_client_of-untouched e f s = record { conns = refl; exchanges = refl }

on_instance-untouched : (id : ℕ) (f : Instance → Instance) (s : State) → Untouched s (on_instance id f s)
unfolding on_instance
on_instance-untouched id f s = record { conns = refl; exchanges = refl }

forget-untouched : (id : ℕ) (s : State) → Untouched s (forget id s)
unfolding forget
forget-untouched id s = record { conns = refl; exchanges = refl }

pub clear-untouched : (key : Bytes) (s : State) → Untouched s (clear key s)
unfolding clear swept
clear-untouched key s = record { conns = refl; exchanges = refl }

mark_row-untouched : (id : ℕ) (s : State) → Untouched s (mark_row id s)
unfolding mark_row
mark_row-untouched id s = record { conns = refl; exchanges = refl }

forget_row-untouched : (x : Instance) (s : State) → Untouched s (forget_row x s)
unfolding forget_row
forget_row-untouched x s = let u = forget-untouched x.id s in record { conns = u.conns; exchanges = u.exchanges }

with_room-untouched : (s : State) → Untouched s (with_room s)
unfolding with_room
with_room-untouched s = untouched_when s (nat_lt (rows s) 1024) (untouched s) (untouched_each s (idle_row s) (untouched s) (λ x. forget_row-untouched x s))

add_row-untouched : (key : Bytes) (version : Version) (fields : List Field) (times : Times) (is_new : Bool) (s : State) → Untouched s (add_row key version fields times is_new s)
unfolding add_row
add_row-untouched key version fields times is_new s = record { conns = refl; exchanges = refl }

pub make_row-untouched : (key : Bytes) (version : Version) (fields : List Field) (times : Times) (s : State) → Untouched s (make_row key version fields times s)
unfolding make_row
make_row-untouched key version fields times s = untouched_on s _ _ (untouched_on s _ _ (clear-untouched key s) (with_room-untouched _)) (add_row-untouched key version fields times true _)

enter-untouched : (key : Bytes) (is_new : Bool) (s : State) → Untouched s (enter key is_new s)
unfolding enter
enter-untouched key is_new s =
    untouched_each s (row s key) (untouched_each s (row_on_disk s key) (untouched s) (λ e. untouched_on s _ _ (with_room-untouched s) (add_row-untouched key e.version e.fields e.times is_new _))) (λ x. untouched s)

renew-untouched : (x : Instance) (head : Response) (times : Times) (s : State) → Untouched s (renew x head times s)
unfolding renew
renew-untouched x head times s = untouched_on s _ _ (on_instance-untouched x.id (renewed head times) s) (mark_row-untouched x.id _)

pub renew_row-untouched : (e : Exchange) (head : Response) (s : State) → Untouched s (renew_row e head s)
unfolding renew_row
renew_row-untouched e head s = untouched_each s (row s (key_of e)) (untouched s) (λ x. renew-untouched x head (times_for e head s) s)

pub bring_row-untouched : (e : Exchange) (head : Response) (s : State) → Untouched s (bring_row e head s)
unfolding bring_row
bring_row-untouched e head s = untouched_when s (is_readable e head) (enter-untouched (key_of e) true s) (untouched s)

next_when : (n : ℕ) (t : Bool) (x y : State) → x.next_exchange ≡ n → y.next_exchange ≡ n → (elim t as (λ c. State) [ true ↦ x | false ↦ y ]).next_exchange ≡ n
next_when n true x y hx hy = hx
next_when n false x y hx hy = hy

next_each : {A : Type 0} (n : ℕ) (o : Option A) (x : State) (y : A → State) → x.next_exchange ≡ n → ((a : A) → (y a).next_exchange ≡ n) → (elim o as (λ c. State) [ None ↦ x | Some a ↦ y a ]).next_exchange ≡ n
next_each n None x y hx hy = hx
next_each n (Some a) x y hx hy = hy a

forget_row-next : (x : Instance) (s : State) → (forget_row x s).next_exchange ≡ s.next_exchange
unfolding forget_row forget
forget_row-next x s = refl

with_room-next : (s : State) → (with_room s).next_exchange ≡ s.next_exchange
unfolding with_room
with_room-next s = next_when s.next_exchange (nat_lt (rows s) 1024) _ _ refl (next_each s.next_exchange (idle_row s) _ _ refl (λ x. forget_row-next x s))

enter-next : (key : Bytes) (is_new : Bool) (s : State) → (enter key is_new s).next_exchange ≡ s.next_exchange
unfolding enter add_row
enter-next key is_new s = next_each s.next_exchange (row s key) _ _ (next_each s.next_exchange (row_on_disk s key) _ _ refl (λ e. with_room-next s)) (λ x. refl)

pub bring_row-next : (e : Exchange) (head : Response) (s : State) → (bring_row e head s).next_exchange ≡ s.next_exchange
unfolding bring_row
bring_row-next e head s = next_when s.next_exchange (is_readable e head) _ _ (enter-next (key_of e) true s) refl

-- so the first of a line is the same exchange
pub same_front : {s t : State} (k : Conn) → Untouched s t → front_of_line t k ≡ front_of_line s k
same_front k u = ap (λ (es : List Exchange). elim k.line as (λ c. Option Exchange) [ [] ↦ None | n ∷ line ↦ find (is_exchange n) es ]) u.exchanges

pub cleared_by-untouched : (head : Response) (e : Exchange) (s : State) → Untouched s (cleared_by head e s)
unfolding cleared_by
cleared_by-untouched head e s = untouched_when s (clears_row head) (clear-untouched (key_of e) s) (untouched s)

clear_named-untouched : (key : Key) (text : Bytes) (s : State) → Untouched s (clear_named key text s)
unfolding clear_named
clear_named-untouched key text s = untouched_each s (key_named key text) (untouched s) (λ named. untouched_when s (is_same_host named key) (clear-untouched (text_of named) s) (untouched s))

clear_each-untouched : (key : Key) (texts : List Bytes) (s : State) → Untouched s (clear_each key texts s)
unfolding clear_each
clear_each-untouched key [] s = untouched s
clear_each-untouched key (text ∷ texts) s = untouched_on s _ _ (clear_named-untouched key text s) (clear_each-untouched key texts _)

pub invalidated-untouched : (e : Exchange) (head : Response) (s : State) → Untouched s (invalidated e head s)
unfolding invalidated
invalidated-untouched e head s =
    untouched_when s (invalidates e head) (untouched_on s _ _ (clear-untouched (key_of e) s) (clear_each-untouched e.key (places_named head) _)) (untouched s)

pub disproved-untouched : (e : Exchange) (head : Response) (s : State) → Untouched s (disproved e head s)
unfolding disproved
disproved-untouched e head s = untouched_when s (reads e && is_some_with (disproves head) (known_version s (key_of e))) (clear-untouched (key_of e) s) (untouched s)
