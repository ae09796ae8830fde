-- Memory was given for the key of each head that was read where replies end, and where a client is read, in a life that did not go astray by it.
use Rattle.std.proofs.Common.{◌≡◌, refl, subst, ap, ℕ, Bool, true, false, cond, List, [], ◌∷◌, Option, Some, None, Ok, Err}
use Rattle.std.specs.Prelude.{slice_get}
use Rattle.pp_client.specs.Clients.{said_by}
use Rattle.pp_desk.specs.Calls.{Found}
use Rattle.pp_desk.specs.Closings.{Sides, closed_client, sides, with_parts}
use Rattle.pp_desk.specs.Replies.{EndsBy, EndsReplies, EndsSaid, EndsSaidOf, EndsWhere, account_renewed, at_next, closes_in, is_finished_in, without_finished, without_finished_at}
use Rattle.pp_desk.specs.declared.desk.Desk.{Desk}
use Rattle.pp_links.specs.Links.{Link}
use Rattle.pp_proxy.specs.Handling.{HearsAt, Rouses}
use Rattle.pp_proxy.specs.Moving.{Turning}
use Rattle.pp_seats.specs.Seats.{at_next_request}
use Rattle.pp_seats.specs.declared.seat.Seat.{Seat}
use Rattle.pp_state.specs.Ends.{Parts, forsaken, left_source, on_seat, parts}
use Rattle.pp_state.specs.Hearing.{is_said_in, may_end, with_end}
use Rattle.pp_talk.specs.Talking.{IsReadAt, LooksAtWhere, TakesIn, astray_behind, brings, heard_by}
use Rattle.pp_world.specs.Log.{Log}
use Rattle.pp_world.specs.declared.event.Got.TheVariants.{Bytes, End, NotYet}
use Rattle.pp_events_law.proofs.KeysKept.{Gives, KeepsKey, beside, closes_one, forsakes, gives_as, gives_then, keeps, leaves_source, looks, on_one}
use Rattle.pp_events_law.specs.Keys.{ClientReadsGiveKeys, EndedRepliesGiveKeys}

-- ---- replies end

ends_by : (i : ℕ) (b : Bool) (x z : Sides) → EndsBy b i x z → Gives x.parts z.parts
ends_by i true x z is = gives_as x.parts (closed_client i x).parts z.parts (ap (λ (w : Sides). w.parts) is) (closes_one i x)
ends_by i false x z is =
    let a : Parts = left_source i x.parts in
    let b : Parts = forsaken i a in
    let c : Parts = at_next i x.parts in
    gives_then x.parts c z.parts (gives_then x.parts b c (gives_then x.parts a b (leaves_source i x.parts) (forsakes i a)) (on_one i at_next_request b (λ seat none. absurd (cc none))))
    (looks i c z.parts is.0 (ap (λ (w : Sides). w.parts.is_astray) is.1))

ends_where : (i : ℕ) (b : Bool) (x z : Sides) → EndsWhere b i x z → Gives x.parts z.parts
ends_where i true x z is =
    let y : Sides = with_parts (on_seat i account_renewed) x in
    gives_then x.parts y.parts z.parts (on_one i account_renewed x.parts (λ seat is. is)) (ends_by i (closes_in (slice_get x.parts.seats i)) y z is)
ends_where i false x z is = gives_as x.parts x.parts z.parts (ap (λ (w : Sides). w.parts) is) (beside x.parts x.parts refl refl)

end_keeps : (seat : Seat) → KeepsKey seat (with_end seat)
end_keeps seat = by (may_end seat)
  where
    by : (b : Bool) → KeepsKey seat (elim b as (λ t. Seat) [ true ↦ record seat { client = said_by 0 seat.client } | false ↦ seat ])
    by true is = is
    by false is = is

ends_of : (i : ℕ) (x z : Sides) → EndsSaidOf i x z → Gives x.parts z.parts
ends_of i x z is =
    let y : Sides = with_parts (on_seat i with_end) x in
    gives_then x.parts y.parts z.parts (on_one i with_end x.parts end_keeps) (ends_where i (is_said_in (slice_get x.parts.seats i)) y z is)

said : (is : List ℕ) (x z : Sides) → EndsSaid is x z → Gives x.parts z.parts
said [] x z ends = gives_as x.parts x.parts z.parts (ap (λ (w : Sides). w.parts) ends) (beside x.parts x.parts refl refl)
said (i ∷ is) x z ends = gives_then x.parts ends.0.parts z.parts (ends_of i x ends.0 ends.1) (said is ends.0 z ends.2)

finished_one : (i : ℕ) (x : Sides) → Gives x.parts (without_finished_at x i).parts
finished_one i x = by (is_finished_in (slice_get x.parts.seats i))
  where
    by : (b : Bool) → Gives x.parts (cond b (closed_client i x) x).parts
    by true = closes_one i x
    by false = beside x.parts x.parts refl refl

finished : (is : List ℕ) (x : Sides) → Gives x.parts (without_finished is x).parts
finished [] x = beside x.parts x.parts refl refl
finished (i ∷ is) x = gives_then x.parts (without_finished_at x i).parts (without_finished (i ∷ is) x).parts (finished_one i x) (finished is (without_finished_at x i))

pub replies_give : (is : List ℕ) (x z : Sides) → EndsReplies is x z → Gives x.parts z.parts
replies_give is x z ends =
    gives_then x.parts ends.0.parts z.parts (said is x ends.0 ends.1) (gives_as ends.0.parts (without_finished is ends.0).parts z.parts (ap (λ (w : Sides). w.parts) ends.2) (finished is ends.0))

pub ended_replies_give : EndedRepliesGiveKeys
ended_replies_give places x y ends = keeps x.parts y.parts (replies_give places x y ends)

-- ---- a client is read

heard_keeps : (found : Found) (front : List ℕ) (seat : Seat) → KeepsKey seat (heard_by found front seat)
heard_keeps None front seat is = is
heard_keeps (Some (Ok (Bytes n))) front seat is = is
heard_keeps (Some (Ok End)) front seat is = is
heard_keeps (Some (Ok NotYet)) front seat is = is
heard_keeps (Some (Err fault)) front seat is = is

looks_where : (b : Bool) (i : ℕ) (p q : Parts) → LooksAtWhere b i p.seats q.seats → q.is_astray ≡ astray_behind b p.is_astray i q.seats → Gives p q
looks_where true i p q is astray = looks i p q is astray
looks_where false i p q is astray = beside p q is astray

takes_in : (found : Found) (front : List ℕ) (i : ℕ) (x z : Sides) → TakesIn found front i x z → Gives x.parts z.parts
takes_in found front i x z is =
    let p : Parts = on_seat i (heard_by found front) x.parts in
    gives_then x.parts p z.parts (on_one i (heard_by found front) x.parts (heard_keeps found front)) (looks_where (brings found) i p z.parts is.seats is.astray)

reads_at : (o : Option Seat) (most i : ℕ) (links : List Link) (x z : Sides) (old new : Option Log) → IsReadAt o most i links x z old new → Gives x.parts z.parts
reads_at None most i links x z old new is = gives_as x.parts x.parts z.parts (ap (λ (w : Sides). w.parts) is.0) (beside x.parts x.parts refl refl)
reads_at (Some seat) most i links x z old new is = takes_in is.found is.front i x z is.is

pub roused_parts : (i : ℕ) (old new : Desk) → Rouses i old new → parts new.state ≡ parts old.state
roused_parts i old new rouses = ap (λ (d : Desk). parts d.state) rouses.rest

pub hears_give : (i : ℕ) (x y : Turning) → HearsAt i x y → Gives (parts x.moving.desk.state) (parts y.moving.desk.state)
hears_give i x y hears =
    let r : Sides = sides hears.roused in
    let z : Sides = hears.hears.0 in
    subst (λ (p : Parts). Gives p (parts y.moving.desk.state)) (roused_parts i x.moving.desk hears.roused hears.rouses)
    (gives_then r.parts z.parts (parts y.moving.desk.state) (reads_at (slice_get r.parts.seats i) _ i x.moving.links r z x.log y.log hears.hears.1)
    (replies_give hears.roused.state.awake.items z (sides y.moving.desk) hears.hears.2))

pub client_reads_give : ClientReadsGiveKeys
client_reads_give i x y hears = keeps (parts x.moving.desk.state) (parts y.moving.desk.state) (hears_give i x y hears)
