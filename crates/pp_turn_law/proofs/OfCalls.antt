-- What a call adds to the log is of its kind: one read of a client, one write, and one read of an origin that brings no bytes.
use Rattle.std.proofs.Common.{◌≡◌, refl, sym, subst, ap, ◌∙◌, ℕ, take, List, [], ◌∷◌, Option, Some, None, Ok, Err}
use Rattle.std.specs.Prelude.{length, slice_get}
use Rattle.pp_desk.specs.Calls.{Found, Took, read_log, write_log}
use Rattle.pp_desk.specs.Closings.{Sides, sides}
use Rattle.pp_events_law.specs.Stands.{HasLedBehind, come}
use Rattle.pp_given_law.specs.Counts.{AreOfClient}
use Rattle.pp_given_law.specs.Ends.{AreOfEnd}
use Rattle.pp_given_law.specs.Writes.{AreOfWrite}
use Rattle.pp_joints_law.proofs.CallsBehind.{WasAdded, some_same, was_added}
use Rattle.pp_joints_law.proofs.Carries.{heard_hears, heard_side, same_added, written_now, written_says}
use Rattle.pp_joints_law.proofs.Losses.{WroteThen}
use Rattle.pp_joints_law.specs.Behind.{StandsBefore}
use Rattle.pp_joints_law.specs.BehindEnds.{BringsNoBytes}
use Rattle.pp_joints_law.specs.BehindReads.{HoldsNext, IsTold}
use Rattle.pp_law.specs.State.{State, Term}
use Rattle.pp_links.specs.Links.{IsLinked, Link}
use Rattle.pp_origins.specs.Asked.{AsksBy, BodyIsAsked, TextIsAsked}
use Rattle.pp_peers.specs.declared.peers.Peer.{Peer}
use Rattle.pp_proxy.specs.Handling.{AsksOn, Handles, HearsAt, SaysAt}
use Rattle.pp_proxy.specs.Moving.{Turning, at_desk}
use Rattle.pp_seats.specs.declared.seat.Seat.{Seat}
use Rattle.pp_state.specs.Asking.{asking}
use Rattle.pp_state.specs.Ends.{numbers_of, place_of}
use Rattle.pp_state.specs.declared.asking.Asking.{Asking}
use Rattle.pp_state.specs.declared.asking.Asking.TheVariants.{Text, Body}
use Rattle.pp_store.specs.Kept.{KeptMap}
use Rattle.pp_talk.specs.Talking.{IsReadAt, IsWrittenAt, offered}
use Rattle.pp_world.specs.Connections.{side_of}
use Rattle.pp_world.specs.Log.{AppendsAll, Log}
use Rattle.pp_world.specs.Wire.{by_side}
use Rattle.pp_world.specs.declared.event.Event.TheVariants.{Readable, Writable}
use Rattle.pp_world.specs.declared.event.Got.TheVariants.{Bytes, End, NotYet}
use Rattle.pp_world.specs.declared.event.Side.{Side}
use Rattle.pp_world.specs.declared.event.Side.TheVariants.{Client as OfClient, Origin as OfOrigin}
use Rattle.pp_world.specs.declared.happening.Happening.{Happening}
use Rattle.pp_world.specs.declared.happening.Happening.TheVariants.{Asked, Broke, CanRead, CanWrite, Ended, Got, Heard, HungUp, Said}

of_side : (o : Option Side) (a b : Happening) → o ≡ Some OfClient → AreOfClient (a ∷ []) → AreOfClient (by_side o a b ∷ [])
of_side o a b is its = subst (λ (z : Option Side). AreOfClient (by_side z a b ∷ [])) (sym is) its

read_of : (id : ℕ) (found : Found) (front : List ℕ) (l : Log) → side_of id l ≡ Some OfClient → AreOfClient (read_log id found front l)
read_of id None front l side = tt
read_of id (Some (Ok (Bytes n))) front l side = of_side (side_of id l) (Heard id (take n front)) (Got id (take n front)) side (refl, tt)
read_of id (Some (Ok End)) front l side = of_side (side_of id l) (HungUp id) (Ended id) side (refl, tt)
read_of id (Some (Ok NotYet)) front l side = (refl, tt)
read_of id (Some (Err fault)) front l side = of_side (side_of id l) (HungUp id) (Broke id) side (refl, tt)

added_of : (o : Option Seat) (most i : ℕ) (links : List Link) (x z : Sides) (old new : Option Log) (now hs : Log) → new ≡ Some now → AppendsAll old new (λ l. hs) → ((seat : Seat) (l : Log) → o ≡ Some seat → old ≡ Some l → side_of seat.client.id l ≡ Some OfClient)
    → IsReadAt o most i links x z old new → AreOfClient hs
added_of None most i links x z old new now hs told added side is = subst AreOfClient (sym (was_added old new now hs (λ l. []) told added (same_added old new is.1)).is) tt
added_of (Some seat) most i links x z old new now hs told added side is =
    let was : WasAdded old (read_log seat.client.id is.found is.front) hs = was_added old new now hs (read_log seat.client.id is.found is.front) told added is.told in
    subst AreOfClient (sym was.is) (read_of seat.client.id is.found is.front was.before (side seat was.before refl was.told))

pub heard_of : (terms : List Term) (log : Log) (number : ℕ → ℕ) (shelf : KeptMap) (id i : ℕ) (x y : Turning) (s : State) → StandsBefore terms log number shelf x.moving s → place_of id (numbers_of x.moving.desk.state.seats.items) ≡ Some i → IsLinked x.log x.moving.top x.moving.links → (told : IsTold y)
    → Handles (Readable id) (come (Readable id) x) y → (it : HasLedBehind number (CanRead id) x y s) → AreOfClient it.log
heard_of terms log number shelf id i x y s before place link told handles it =
    let hears : HearsAt i (at_desk handles.woken x) y = heard_hears terms log number shelf id i x y s before place link told handles it in
    added_of (slice_get hears.roused.state.seats.items i) (length hears.roused.buffer.items) i x.moving.links (sides hears.roused) hears.hears.0 x.log y.log told.log it.log told.told it.told (heard_side terms log number shelf id i x y s before place link told handles it) hears.hears.1

-- ---- a write

either : (o : Option Side) (a b : Happening) → AreOfWrite (a ∷ []) → AreOfWrite (b ∷ []) → AreOfWrite (by_side o a b ∷ [])
either None a b one two = two
either (Some OfClient) a b one two = one
either (Some OfOrigin) a b one two = two

write_of : (id : ℕ) (bytes : List ℕ) (took : Took) (l : Log) → AreOfWrite (write_log id bytes took l)
write_of id bytes None l = tt
write_of id bytes (Some (Ok n)) l = either (side_of id l) (Said id (length bytes) (take n bytes)) (Asked id (take n bytes)) (refl, tt) (refl, tt)
write_of id bytes (Some (Err fault)) l = either (side_of id l) (HungUp id) (Broke id) (refl, tt) (refl, tt)

written_added : (o : Option Seat) (i : ℕ) (links : List Link) (x z : Sides) (old new : Option Log) (now hs : Log) → new ≡ Some now → AppendsAll old new (λ l. hs) → IsWrittenAt o i links x z old new → AreOfWrite hs
written_added None i links x z old new now hs told added is = subst AreOfWrite (sym (was_added old new now hs (λ l. []) told added (same_added old new is.1)).is) tt
written_added (Some seat) i links x z old new now hs told added is =
    let bytes : List ℕ = offered seat.client.reply x.parts.cache in
    let was : WasAdded old (write_log seat.client.id bytes is.took) hs = was_added old new now hs (write_log seat.client.id bytes is.took) told added is.told in
    subst AreOfWrite (sym was.is) (write_of seat.client.id bytes is.took was.before)

-- what it adds behind the read of a chunk
pub wrote_of : (i : ℕ) (x y : Turning) (now : Log) → y.log ≡ Some now → (says : SaysAt i x y) (wrote : WroteThen says.says.between y.log now) → AreOfWrite wrote.wrote
wrote_of i x y now told says wrote =
    written_added (slice_get says.says.loaded.state.seats.items i) i x.moving.links (sides says.says.loaded) says.says.says.0 says.says.between y.log now wrote.wrote told
    (record { was = λ l is. (wrote.log, wrote.told, sym (some_same now l (sym told ∙ is)) ∙ wrote.is) }) says.says.says.1

-- to a client whose next byte is not on the disk alone
pub written_of : (terms : List Term) (log : Log) (number : ℕ → ℕ) (shelf : KeptMap) (id i : ℕ) (x y : Turning) (seat : Seat) (s : State) → StandsBefore terms log number shelf x.moving s → HoldsNext id i x seat → (told : IsTold y) → Handles (Writable id) (come (Writable id) x) y
    → (it : HasLedBehind number (CanWrite id) x y s) → AreOfWrite it.log
written_of terms log number shelf id i x y seat s before holds told handles it =
    let says : SaysAt i (at_desk handles.woken x) y = written_says terms log number shelf id i x y seat s before holds told handles it in
    written_added (slice_get says.says.loaded.state.seats.items i) i x.moving.links (sides says.says.loaded) says.says.says.0 x.log y.log told.log it.log told.told it.told
    (subst (λ (l : Option Log). IsWrittenAt (slice_get says.says.loaded.state.seats.items i) i x.moving.links (sides says.says.loaded) says.says.says.0 l y.log) (written_now terms log number shelf id i x y seat s before holds told handles it).log says.says.says.1)

text_added : (o : Option Peer) (k n left at : ℕ) (awake : List ℕ) (links : List Link) (x z : Sides) (old new : Option Log) (now hs : Log) → new ≡ Some now → AppendsAll old new (λ l. hs) → TextIsAsked o k n left at awake links x z old new → AreOfWrite hs
text_added None k n left at awake links x z old new now hs told added is = subst AreOfWrite (sym (was_added old new now hs (λ l. []) told added (same_added old new is.told)).is) tt
text_added (Some peer) k n left at awake links x z old new now hs told added is = let was = was_added old new now hs _ told added is.told in subst AreOfWrite (sym was.is) (write_of k _ is.took was.before)

body_added : (o : Option Seat) (k n left i : ℕ) (awake : List ℕ) (links : List Link) (x z : Sides) (old new : Option Log) (now hs : Log) → new ≡ Some now → AppendsAll old new (λ l. hs) → BodyIsAsked o k n left i awake links x z old new → AreOfWrite hs
body_added None k n left i awake links x z old new now hs told added is = subst AreOfWrite (sym (was_added old new now hs (λ l. []) told added (same_added old new is.told)).is) tt
body_added (Some seat) k n left i awake links x z old new now hs told added is = let was = was_added old new now hs _ told added is.told in subst AreOfWrite (sym was.is) (write_of k _ is.took was.before)

asked_added : (o : Option Asking) (k at : ℕ) (awake : List ℕ) (links : List Link) (x z : Sides) (old new : Option Log) (now hs : Log) → new ≡ Some now → AppendsAll old new (λ l. hs) → AsksBy o k at awake links x z old new → AreOfWrite hs
asked_added None k at awake links x z old new now hs told added is = subst AreOfWrite (sym (was_added old new now hs (λ l. []) told added (same_added old new is.told)).is) tt
asked_added (Some (Text n left)) k at awake links x z old new now hs told added is = text_added _ k n left at awake links x z old new now hs told added is
asked_added (Some (Body n left i)) k at awake links x z old new now hs told added is = body_added _ k n left i awake links x z old new now hs told added is

-- to an origin
pub asked_of : (k : ℕ) (x woken y : Turning) (hs : Log) (told : IsTold y) → AppendsAll x.log y.log (λ l. hs) → woken.log ≡ x.log → AsksOn k woken y → AreOfWrite hs
asked_of k x woken y hs told added same asks =
    asked_added (asking k woken.moving.desk.state.seats.items woken.moving.desk.state.flow) k woken.moving.desk.state.now woken.moving.desk.state.awake.items woken.moving.links (sides woken.moving.desk) (sides y.moving.desk) woken.log y.log told.log hs told.told
    (subst (λ (l : Option Log). AppendsAll l y.log (λ m. hs)) (sym same) added) asks.asks

-- ---- one read of an origin

as_origin : (o : Option Side) (a b : Happening) → o ≡ Some OfOrigin → by_side o a b ∷ [] ≡ b ∷ []
as_origin o a b is = ap (λ (z : Option Side). by_side z a b ∷ []) is

pub end_of : (id : ℕ) (found : Found) (front : List ℕ) (l : Log) → side_of id l ≡ Some OfOrigin → BringsNoBytes id (read_log id found front l) → AreOfEnd (read_log id found front l)
end_of id None front l side none = tt
end_of id (Some (Ok (Bytes n))) front l side none = absurd (none (take n front) (as_origin (side_of id l) (Heard id (take n front)) (Got id (take n front)) side))
end_of id (Some (Ok End)) front l side none = subst AreOfEnd (sym (as_origin (side_of id l) (HungUp id) (Ended id) side)) (refl, tt)
end_of id (Some (Ok NotYet)) front l side none = (refl, tt)
end_of id (Some (Err fault)) front l side none = subst AreOfEnd (sym (as_origin (side_of id l) (HungUp id) (Broke id) side)) (refl, tt)
