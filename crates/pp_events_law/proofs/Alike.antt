-- Clients that keep their places, numbers, requests and replies are looked at as before, and can be decided as before.
use Rattle.std.proofs.Common.{◌≡◌, ◌<◌, refl, sym, subst, ap, ◌∙◌, ℕ, zero, suc, Bool, true, false, ◌==◌, ◌&&◌, not, length, map, List, [], ◌∷◌, ◌++◌, Option, Some, None}
use Rattle.std.specs.Prelude.{slice_get, slice_set}
use Rattle.pp_cache.specs.Memory.{Memory}
use Rattle.pp_cache_law.proofs.Numbers.{is_same, some_is}
use Rattle.pp_turns_law.proofs.Changed.{get_set}
use Rattle.pp_turns_law.proofs.Regained.{get_other}
use Rattle.pp_endings_law.proofs.Walk.{as_many}
use Rattle.pp_flow.specs.Changes.{Exchanges}
use Rattle.pp_flow_law.proofs.Entries.{none_some}
use Rattle.pp_flow_law.specs.Tables.{AreGiven}
use Rattle.pp_law.specs.Lists.{has_number}
use Rattle.pp_objects.specs.Instances.{is_there}
use Rattle.pp_objects.specs.declared.id.ObjectId.{ObjectId}
use Rattle.pp_seats.specs.Dues.{refused_in}
use Rattle.pp_seats.specs.Follows.{answer_in}
use Rattle.pp_seats.specs.Heads.{is_there_in}
use Rattle.pp_seats.specs.Seats.{is_silent, is_undecided_in}
use Rattle.pp_seats.specs.declared.front.Front.{Front}
use Rattle.pp_seats.specs.declared.seat.Brought.TheVariants.{Joins}
use Rattle.pp_seats.specs.declared.seat.Seat.{Seat}
use Rattle.pp_seats.specs.declared.seat.Stage.{Stage}
use Rattle.pp_state.proofs.SeatsLemmas.{changed_numbers, mapped_numbers}
use Rattle.pp_state.specs.Ends.{Parts, numbers_of, on_seat, on_seat_where, parts}
use Rattle.pp_state.specs.declared.state.State.{State as Turn}
use Rattle.pp_turns_law.specs.Firsts.{AreAwake, IsAsleep}
use Rattle.pp_states_law.specs.Told.{IsTold}
use Rattle.pp_turns_law.specs.Rows.{AreReady, IsReady}
use Rattle.pp_turns_law.specs.Turns.{IsFollowing}

-- ---- a client, and all

-- what its exchange joined is what it joined before
pub record IsAlike (seat new : Seat) : Type 0 where
  pub id : new.client.id ≡ seat.client.id
  pub reply : new.client.reply ≡ seat.client.reply
  pub heard : new.client.heard ≡ seat.client.heard
  pub body_left : new.body_left ≡ seat.body_left
  pub front : new.front ≡ seat.front
  pub stage : new.stage ≡ seat.stage
  pub hung_up : new.has_hung_up ≡ seat.has_hung_up
  pub closing : new.is_closing ≡ seat.is_closing
  pub joins : (id : ObjectId) (plain : Bool) → new.brought ≡ Joins id plain → seat.brought ≡ Joins id plain

pub record WasAlike (seats : List Seat) (j : ℕ) (new : Seat) : Type 0 where
  pub old : Seat
  pub here : slice_get seats j ≡ Some old
  pub is : IsAlike old new

pub record AreAlike (p q : Parts) : Type 0 where
  pub numbers : numbers_of q.seats ≡ numbers_of p.seats
  pub was : (j : ℕ) (new : Seat) → slice_get q.seats j ≡ Some new → WasAlike p.seats j new
  pub lives : q.cache.lives ≡ p.cache.lives
  pub there : (id : ObjectId) → is_there id q.cache.instances ≡ true → is_there id p.cache.instances ≡ true

pub itself : (seat : Seat) → IsAlike seat seat
itself seat = record { id = refl; reply = refl; heard = refl; body_left = refl; front = refl; stage = refl; hung_up = refl; closing = refl; joins = λ id plain is. is }

alike_then : (a b c : Seat) → IsAlike a b → IsAlike b c → IsAlike a c
alike_then a b c one two = record {
  id = two.id ∙ one.id;
  reply = two.reply ∙ one.reply;
  heard = two.heard ∙ one.heard;
  body_left = two.body_left ∙ one.body_left;
  front = two.front ∙ one.front;
  stage = two.stage ∙ one.stage;
  hung_up = two.hung_up ∙ one.hung_up;
  closing = two.closing ∙ one.closing;
  joins = λ id plain is. one.joins id plain (two.joins id plain is);
}

pub none : (p : Parts) (f : Exchanges) → AreAlike p (record p { flow = f })
none p f = record { numbers = refl; was = λ j new at. record { old = new; here = at; is = itself new }; lives = refl; there = λ id is. is }

pub then : (p q r : Parts) → AreAlike p q → AreAlike q r → AreAlike p r
then p q r one two = record {
  numbers = two.numbers ∙ one.numbers;
  was = λ j new at. join j new (two.was j new at);
  lives = two.lives ∙ one.lives;
  there = λ id is. one.there id (two.there id is);
}
  where
    join : (j : ℕ) (new : Seat) → WasAlike q.seats j new → WasAlike p.seats j new
    join j new b = let a : WasAlike p.seats j b.old = one.was j b.old b.here in record { old = a.old; here = a.here; is = alike_then a.old b.old new a.is b.is }

-- ---- one client is changed

set_was : (i : ℕ) (f : Seat → Seat) → ((seat : Seat) → IsAlike seat (f seat)) → (seats : List Seat) (seat : Seat) → slice_get seats i ≡ Some seat → (j : ℕ) (new : Seat) → slice_get (slice_set seats i (f seat)) j ≡ Some new → WasAlike seats j new
set_was i f keeps seats seat here j new at = by (i == j) refl
  where
    by : (b : Bool) → (i == j) ≡ b → WasAlike seats j new
    by false off = record { old = new; here = sym (get_other i j seats (f seat) off) ∙ at; is = itself new }
    by true same =
        let one : f seat ≡ new = some_is (f seat) new (sym (get_set i seats seat (f seat) here) ∙ ap (λ (k : ℕ). slice_get (slice_set seats i (f seat)) k) (is_same i j same) ∙ at) in
        record { old = seat; here = ap (λ (k : ℕ). slice_get seats k) (sym (is_same i j same)) ∙ here; is = subst (λ (o : Seat). IsAlike seat o) one (keeps seat) }

pub on_one : (i : ℕ) (f : Seat → Seat) (p : Parts) → ((seat : Seat) → IsAlike seat (f seat)) → AreAlike p (on_seat i f p)
on_one i f p keeps = record { numbers = changed_numbers i f p.seats (λ seat. (keeps seat).id); was = λ j new at. by j new (slice_get p.seats i) refl at; lives = refl; there = λ id is. is }
  where
    by : (j : ℕ) (new : Seat) (o : Option Seat) → slice_get p.seats i ≡ o → slice_get (elim o as (λ t. List Seat) [ None ↦ p.seats | Some seat ↦ slice_set p.seats i (f seat) ]) j ≡ Some new → WasAlike p.seats j new
    by j new None here at = record { old = new; here = at; is = itself new }
    by j new (Some seat) here at = set_was i f keeps p.seats seat here j new at

pub on_some : (o : Option ℕ) (f : Seat → Seat) (p : Parts) → ((seat : Seat) → IsAlike seat (f seat)) → AreAlike p (on_seat_where o f p)
on_some None f p keeps = none p p.flow
on_some (Some i) f p keeps = on_one i f p keeps

-- all are
pub map_was : (f : Seat → Seat) → ((seat : Seat) → IsAlike seat (f seat)) → (seats : List Seat) (j : ℕ) (new : Seat) → slice_get (map f seats) j ≡ Some new → WasAlike seats j new
map_was f keeps [] j new at = absurd (none_some new at)
map_was f keeps (seat ∷ seats) zero new at = record { old = seat; here = refl; is = subst (λ (o : Seat). IsAlike seat o) (some_is (f seat) new at) (keeps seat) }
map_was f keeps (seat ∷ seats) (suc j) new at = let was : WasAlike seats j new = map_was f keeps seats j new at in record { old = was.old; here = was.here; is = was.is }

pub map_alike : (f : Seat → Seat) (p : Parts) → ((seat : Seat) → IsAlike seat (f seat)) → AreAlike p (record p { seats = map f p.seats })
map_alike f p keeps = record { numbers = mapped_numbers f p.seats (λ seat. (keeps seat).id); was = λ j new at. map_was f keeps p.seats j new at; lives = refl; there = λ id is. is }

-- ---- who is looked at

pub silent_as : (seat new : Seat) → IsAlike seat new → is_silent new ≡ is_silent seat
silent_as seat new is =
    ap (λ (t : Stage). is_undecided_in t && not (is_there_in new.front) && not new.has_hung_up && not new.is_closing) is.stage
    ∙ ap (λ (f : Front). is_undecided_in seat.stage && not (is_there_in f) && not new.has_hung_up && not new.is_closing) is.front
    ∙ ap (λ (b : Bool). is_undecided_in seat.stage && not (is_there_in seat.front) && not b && not new.is_closing) is.hung_up
    ∙ ap (λ (b : Bool). is_undecided_in seat.stage && not (is_there_in seat.front) && not seat.has_hung_up && not b) is.closing

pub as_long : (p q : Parts) → AreAlike p q → length q.seats ≡ length p.seats
as_long p q alike = sym (as_many q.seats) ∙ ap (λ (ns : List ℕ). length ns) alike.numbers ∙ as_many p.seats

pub awake_alike : (p q : Turn) → AreAlike (parts p) (parts q) → q.awake.items ≡ p.awake.items → q.is_ticked ≡ p.is_ticked → AreAwake p → AreAwake q
awake_alike p q alike awake ticked are = record {
  order = subst (λ (n : ℕ). AreGiven 0 n q.awake.items) (sym (as_long (parts p) (parts q) alike)) (subst (λ (ns : List ℕ). AreGiven 0 (length p.seats.items) ns) (sym awake) are.order);
  others = λ j seat here none.
      let was : WasAlike p.seats.items j seat = alike.was j seat here in
      let one : IsAsleep p was.old = are.others j was.old was.here (ap (λ (ns : List ℕ). has_number j ns) (sym awake) ∙ none) in
      record { silent = silent_as was.old seat was.is ∙ one.silent; ticked = ticked ∙ one.ticked };
}

-- ---- who can be decided

one_ready : (number : ℕ → ℕ) (m : Memory) (next : ℕ) (old new : Seat) → IsAlike old new → IsReady number m next old → IsReady number m next new
one_ready number m next old new is ready = record {
  follows = λ a id answer source. ready.follows a id (sym (ap (λ (t : Stage). answer_in t) is.stage) ∙ answer) source;
  key = λ refused. ready.key (sym (ap (λ (f : Front). refused_in f) is.front) ∙ refused);
  joined = λ id plain brought. ready.joined id plain (is.joins id plain brought);
}

pub ready_alike : (number : ℕ → ℕ) (next : ℕ) (p q : Parts) → AreAlike p q → q.cache ≡ p.cache → AreReady number p.cache next p.seats → AreReady number q.cache next q.seats
ready_alike number next p q alike cache ready = subst (λ (m : Memory). AreReady number m next q.seats) (sym cache)
    (λ j new at going. let was : WasAlike p.seats j new = alike.was j new at in one_ready number p.cache next was.old new was.is (ready j was.old was.here (sym was.is.closing ∙ going)))

-- where what each follows is there
pub ready_over : (number : ℕ → ℕ) (next : ℕ) (p q : Parts) → AreAlike p q → ((i : ℕ) (seat : Seat) → slice_get q.seats i ≡ Some seat → seat.is_closing ≡ false → IsFollowing q.cache seat) → AreReady number p.cache next p.seats → AreReady number q.cache next q.seats
ready_over number next p q alike follow ready j new at going =
    let was : WasAlike p.seats j new = alike.was j new at in
    let old : IsReady number p.cache next was.old = ready j was.old was.here (sym was.is.closing ∙ going) in
    record {
      follows = follow j new at going;
      key = λ refused. old.key (sym (ap (λ (f : Front). refused_in f) was.is.front) ∙ refused);
      joined = λ id plain brought.
          let told : IsTold number p.cache next id = old.joined id plain (was.is.joins id plain brought) in
          record { given = subst (λ (n : ℕ). id.life < n) (sym alike.lives) told.given; made = told.made; apart = λ other there. told.apart other (alike.there other there) };
    }

-- with one more
pub ready_more : (number : ℕ → ℕ) (m : Memory) (next : ℕ) (seats : List Seat) (new : Seat) → IsReady number m next new → AreReady number m next seats → AreReady number m next (seats ++ new ∷ [])
ready_more number m next [] new one ready zero other at going = subst (λ (o : Seat). IsReady number m next o) (some_is new other at) one
ready_more number m next [] new one ready (suc j) other at going = absurd (none_some other at)
ready_more number m next (seat ∷ seats) new one ready zero other at going = ready 0 other at going
ready_more number m next (seat ∷ seats) new one ready (suc j) other at going = ready_more number m next seats new one (λ k x there on. ready (suc k) x there on) j other at going
