-- Where nothing is due a turn ends as by the law.
use Rattle.std.proofs.Common.{◌≡◌, ◌<◌, ◌≤◌, refl, sym, subst, ap, ap₂, ◌∙◌, ℕ, Bool, true, false, not, ◌||◌, ◌==◌, length, List, [], ◌∷◌, map, is_some, Option, Some, None, arith}
use Rattle.std.specs.List.{list_any}
use Rattle.std.specs.Prelude.{option_and_then, slice_get}
use Rattle.pp_cache.specs.Bounds.{IsBounded}
use Rattle.pp_cache.specs.Memory.{Memory}
use Rattle.pp_cache_law.proofs.Numbers.{same_test, some_is}
use Rattle.pp_client.specs.Replies.{Reply as Said}
use Rattle.pp_turns_law.proofs.AtOnce.{begun_is}
use Rattle.pp_turns_law.proofs.StandingOn.{there_by}
use Rattle.pp_turns_law.proofs.Walk.{begins as replies_begin}
use Rattle.pp_turns_law.specs.Begins.{AllMayBegin, IsDecidedAs}
use Rattle.pp_deciding_law.proofs.Disk.{in_place}
use Rattle.pp_deciding_law.proofs.Found.{kept_on}
use Rattle.pp_desk.specs.declared.desk.Desk.{Desk}
use Rattle.pp_flow_law.specs.Tables.{AreGiven, none_leaves}
use Rattle.pp_law.specs.Closing.{forsake}
use Rattle.pp_law.specs.Due.{Due}
use Rattle.pp_law.specs.Lists.{Bytes, has_number}
use Rattle.pp_law.specs.Opening.{is_at, is_same_phase}
use Rattle.pp_law.specs.Phases.{come_to, ending, has_closings, is_done, is_done_with, is_free, may_end, phases}
use Rattle.pp_law.specs.Replies.{begin_replies, begun_at_end}
use Rattle.pp_law.specs.State.{State, Client, Instance as Known, Owed, Phase, Reply, Stage, Term, Undecided, Waiting, Passing, Answering, DecidingAgain, Handling, Free, ReadOf, WriteTo}
use Rattle.pp_law.specs.Table.{instance, row_on_disk, swept}
use Rattle.pp_laws_turn.proofs.Amid.{replies_begin as still_sound}
use Rattle.pp_laws_turn.proofs.Laws.{has_source, sound_turns}
use Rattle.pp_laws_turn.proofs.Lifts.{turn_on}
use Rattle.pp_laws_turn.proofs.View.{facts_of}
use Rattle.pp_laws_turn.specs.SoundTurn.{IsSoundTurn}
use Rattle.pp_objects.specs.Instances.{is_same_id, is_there}
use Rattle.pp_objects.specs.declared.id.ObjectId.{ObjectId}
use Rattle.pp_obeys.proofs.Come.{come-stopped}
use Rattle.pp_obeys.proofs.Frames.{Frame, frame, frame_of, stays as frame_stays}
use Rattle.pp_obeys.proofs.Obeying.{obeys_good}
use Rattle.pp_obeys.proofs.Settled.{AtRest, works}
use Rattle.pp_obeys.proofs.StaysTurns.{begin_replies-stays}
use Rattle.pp_obeys.specs.Obeys.{Obeys}
use Rattle.pp_peers.specs.declared.peers.Peer.{Peer}
use Rattle.pp_proxy.specs.Rounds.{BeginsAll}
use Rattle.pp_seats.specs.Dues.{refused_in}
use Rattle.pp_seats.specs.Follows.{answer_in}
use Rattle.pp_seats.specs.declared.front.Front.{Front}
use Rattle.pp_seats.specs.declared.seat.Answer.{Answer}
use Rattle.pp_seats.specs.declared.seat.Brought.TheVariants.{Joins as JoinsRow}
use Rattle.pp_seats.specs.declared.seat.Seat.{Seat}
use Rattle.pp_seats.specs.declared.seat.Stage.{Stage as SeatStage}
use Rattle.pp_seats.specs.declared.seat.Stage.TheVariants.{Undecided as IsUndecided, Waiting as IsWaiting, Passing as IsPassing, Answering as IsAnswering}
use Rattle.pp_seats_law.proofs.Nexts.{reply_in}
use Rattle.pp_seats_law.specs.Replies.{ShowsStage, source_number}
use Rattle.pp_seats_law.specs.Dues.{AreApart}
use Rattle.pp_state.specs.Ends.{source_of}
use Rattle.pp_state.specs.declared.state.State.{State as Turn}
use Rattle.pp_states_law.specs.Told.{IsTold}
use Rattle.pp_store.specs.Kept.{KeptMap}
use Rattle.pp_turns_law.proofs.First.{IsShownAt, seat_shown}
use Rattle.pp_turns_law.proofs.Reading.{same_id}
use Rattle.pp_turns_law.specs.Firsts.{AreAwake, IsAsleep}
use Rattle.pp_turns_law.specs.Rows.{AreReady, IsReady}
use Rattle.pp_turns_law.specs.Turns.{IsFollowing, ShowsTurn}
use Rattle.pp_world.specs.Log.{Log}
use Rattle.pp_rounds_law.proofs.Begun.{Begun, Was, all_begun}
use Rattle.pp_rounds_law.specs.Ends.{EndsAreTheLaws, HasEnded, MayBeginNow, MayEnd, WasDecidedAs}

-- ---- of the law: what replies that begin leave

closings_stay : (s : State) → has_closings (begin_replies s) ≡ has_closings s
unfolding begin_replies forsake swept
closings_stay s = ap (λ (b : Bool). b || list_any (λ k. k.is_closing) s.conns) (none s.clients)
  where
    none : (cs : List Client) → list_any (λ c. c.is_closing) (map (begun_at_end s) cs) ≡ list_any (λ c. c.is_closing) cs
    none [] = refl
    none (c ∷ cs) = ap₂ (λ (a b : Bool). a || b) (ap (λ (d : Client). d.is_closing) (begun_is s c).is) (none cs)

rows_stay : (s : State) (key : Bytes) → row_on_disk (begin_replies s) key ≡ row_on_disk s key
unfolding begin_replies forsake swept
rows_stay s key = refl

next_stays : (s : State) → (begin_replies s).next_instance ≡ s.next_instance
unfolding begin_replies forsake swept
next_stays s = refl

-- what is owed is owed while an event is handled
is_owed : (o : Owed) → is_free o ≡ true → o ≡ Free
is_owed Free is = refl
is_owed (ReadOf n) is = absurd (cc is)
is_owed (WriteTo n) is = absurd (cc is)

-- ---- what a seat follows is what its client is answered from

record IsFrom (number : ℕ → ℕ) (u : Stage) (id : ObjectId) : Type 0 where
  reply : Reply
  is : reply_in u ≡ Some reply
  source : reply.source ≡ Some (number id.life)

answered : (number : ℕ → ℕ) (said : Said) (t : SeatStage) (u : Stage) (a : Answer) (id : ObjectId) → ShowsStage number said t u → answer_in t ≡ Some a → a.source ≡ Some id → IsFrom number u id
answered number said (IsAnswering b) (Answering r) a id shows its source =
    record { reply = r; is = refl; source = sym shows.source ∙ ap (λ (x : Answer). source_number number x.source) (some_is b a its) ∙ ap (λ (o : Option ObjectId). source_number number o) source }
answered number said IsUndecided u a id shows its source = absurd (cc its)
answered number said IsWaiting u a id shows its source = absurd (cc its)
answered number said IsPassing u a id shows its source = absurd (cc its)
answered number said (IsAnswering b) Undecided a id shows its source = absurd shows
answered number said (IsAnswering b) Waiting a id shows its source = absurd shows
answered number said (IsAnswering b) Passing a id shows its source = absurd shows

was_followed : (m : Memory) (old : Seat) (id : ObjectId) → IsFollowing m old → source_of old ≡ Some id → is_there id m.instances ≡ true
was_followed m old id follows source = by (answer_in old.stage) refl source
  where
    by : (o : Option Answer) → answer_in old.stage ≡ o → option_and_then (λ (a : Answer). a.source) o ≡ Some id → is_there id m.instances ≡ true
    by None is at = absurd (cc at)
    by (Some a) is at = follows a id is at

lower : (a b c : ℕ) → a < b → b ≤ c → a < c
lower a b c one two = omega (arith, one, two)

-- ---- what its exchange joined is told apart from what it follows

apart : (number : ℕ → ℕ) (m : Memory) (next : ℕ) (seat : Seat) (a : Answer) → IsReady number m next seat → seat.stage ≡ IsAnswering a → AreApart number a.source seat.brought
apart number m next seat a ready stage id joined plain source brought same =
    let there : is_there id m.instances ≡ true = ready.follows a id (ap (λ (t : SeatStage). answer_in t) stage) source in
    let told : is_same_id joined id ≡ (number joined.life == number id.life) = (ready.joined joined plain brought).apart id there in
    sym (same_id joined id (told ∙ same_test (number joined.life) (number id.life) (sym same)))

decided_as : (number : ℕ → ℕ) (m : Memory) (s : State) (seat : Seat) (c : Client) (a : Answer) → IsReady number m s.next_instance seat → seat.stage ≡ IsAnswering a → WasDecidedAs number s seat c a → IsDecidedAs number s seat c a
decided_as number m s seat c a ready stage was =
    record { passes = was.passes; kept = was.kept; from = was.from; to = was.to; order = was.order; given = was.given; apart = apart number m s.next_instance seat a ready stage; shows = was.shows }

-- ---- the end

module _ (terms : List Term) (number : ℕ → ℕ) (before : Log) (shelf : KeptMap) (p q : Desk) (s : State) (obeys : Obeys terms s before) (may : MayEnd number shelf p s) (begins : BeginsAll p q) (bounded : IsBounded q.state.cache) where
  sound : IsSoundTurn s
  sound = sound_turns terms s before obeys

  turn : ShowsTurn number none_leaves p.peers p.state s
  turn = may.stands.turn

  at_last : is_at DecidingAgain s ≡ true
  at_last = ap (λ (f : Phase). is_same_phase DecidingAgain f) may.at

  stays : come_to DecidingAgain s ≡ s
  unfolding come_to
  stays = come-stopped (is_at DecidingAgain) phases s at_last

  done : is_done s ≡ true
  done = ap (λ (f : Phase). is_done_with f s) may.at ∙ ap (λ (o : Option Due). not (is_some o)) may.done

  may_it : may_end s ≡ true
  may_it =
      ap (λ (t : State). elim (is_at DecidingAgain t) as (λ c. Bool) [ true ↦ is_done t | false ↦ false ]) stays
      ∙ ap (λ (b : Bool). elim b as (λ c. Bool) [ true ↦ is_done s | false ↦ false ]) at_last
      ∙ done

  ending_is : ending s ≡ begin_replies s
  unfolding ending
  ending_is = ap begin_replies stays

  all_may_begin : AllMayBegin number p.state s
  all_may_begin i seat c here there going =
      let one : IsShownAt number p.state.name.items p.state.seats.items s.clients i = seat_shown number p.state.name.items p.state.seats.items s.clients i seat turn.steps.shows.clients here in
      let stays_on : seat.is_closing ≡ false =
      ap (λ (x : Seat). x.is_closing) (some_is seat one.seat (sym here ∙ one.here)) ∙ one.shows.closing ∙ ap (λ (d : Client). d.is_closing) (some_is one.client c (sym one.there ∙ there)) ∙ going in
      let now : MayBeginNow number s seat c = may.begins i seat c here there going in
      let ready : IsReady number p.state.cache s.next_instance seat = may.stands.ready i seat here stays_on in
      record { follows = ready.follows; room = now.room; once = sound.once c.number; headed = now.headed; decided = λ a stage unbegun. decided_as number p.state.cache s seat c a ready stage (now.decided a stage unbegun) }

  same_peers : q.peers ≡ p.peers
  same_peers = ap (λ (d : Desk). d.peers) begins.rest

  then_is : ShowsTurn number none_leaves q.peers q.state (begin_replies s)
  then_is =
      subst (λ (ps : List Peer). ShowsTurn number none_leaves ps q.state (begin_replies s)) (sym same_peers)
      (replies_begin number none_leaves p.peers p.state q.state s turn may.stands.awake all_may_begin begins.is bounded)

  begun : Begun p.state.awake.items p.state q.state
  begun = all_begun p.state.awake.items p.state q.state begins.is

  -- ---- what each follows is there still

  no_more : (id : ObjectId) → is_there id q.state.cache.instances ≡ true → is_there id p.state.cache.instances ≡ true
  no_more id there = begun.stands.there id there

  old_ready : (j : ℕ) (new : Seat) (was : Was p.state j new) → new.is_closing ≡ false → IsReady number p.state.cache s.next_instance was.old
  old_ready j new was going = may.stands.ready j was.old was.here (sym was.like.closing ∙ going)

  follows_now : (j : ℕ) (new : Seat) → slice_get q.state.seats.items j ≡ Some new → new.is_closing ≡ false → IsFollowing q.state.cache new
  follows_now j new at going a id answer source =
      let was : Was p.state j new = begun.was j new at in
      let one : IsShownAt number q.state.name.items q.state.seats.items (begin_replies s).clients j = seat_shown number q.state.name.items q.state.seats.items (begin_replies s).clients j new then_is.steps.shows.clients at in
      let same : one.seat ≡ new = some_is one.seat new (sym one.here ∙ at) in
      let closing : one.client.is_closing ≡ false = sym one.shows.closing ∙ ap (λ (x : Seat). x.is_closing) same ∙ going in
      let shown : ShowsStage number one.seat.client.reply one.seat.stage one.client.stage = (one.shows.going closing).stage in
      let from : IsFrom number one.client.stage id = answered number one.seat.client.reply one.seat.stage one.client.stage a id shown (ap (λ (x : Seat). answer_in x.stage) same ∙ answer) source in
      let law : (x : Known) × (instance (begin_replies s) (number id.life) ≡ Some x) =
      has_source (begin_replies s) (facts_of (still_sound s (turn_on terms s before obeys))) one.client (in_place j (begin_replies s).clients one.client one.there) closing from.reply (number id.life) from.is from.source in
      let there : is_there id p.state.cache.instances ≡ true =
      was_followed p.state.cache was.old id (old_ready j new was going).follows (was.like.follows id (ap (λ (o : Option Answer). option_and_then (λ (b : Answer). b.source) o) answer ∙ source)) in
      there_by number p.state.cache q.state.cache s (begin_replies s) id law.0 turn.steps.shows.table.table then_is.steps.shows.table.table there no_more law.1

  joined_now : (j : ℕ) (new : Seat) → slice_get q.state.seats.items j ≡ Some new → new.is_closing ≡ false → (id : ObjectId) (plain : Bool) → new.brought ≡ JoinsRow id plain → IsTold number q.state.cache (begin_replies s).next_instance id
  joined_now j new at going id plain brought =
      let was : Was p.state j new = begun.was j new at in
      let told : IsTold number p.state.cache s.next_instance id = (old_ready j new was going).joined id plain (sym was.like.brought ∙ brought) in
      record {
        given = lower id.life p.state.cache.lives q.state.cache.lives told.given begun.stands.lives;
        made = subst (λ (n : ℕ). number id.life < n) (sym (next_stays s)) told.made;
        apart = λ other there. told.apart other (no_more other there);
      }

  ready_now : AreReady number q.state.cache (begin_replies s).next_instance q.state.seats.items
  ready_now j new at going =
      let was : Was p.state j new = begun.was j new at in
      record {
        follows = follows_now j new at going;
        key = λ refused. (old_ready j new was going).key (ap (λ (f : Front). refused_in f) (sym was.like.front) ∙ refused);
        joined = joined_now j new at going;
      }

  same_awake : q.state.awake.items ≡ p.state.awake.items
  same_awake = ap (λ (t : Turn). t.awake.items) begun.rest

  same_ticked : q.state.is_ticked ≡ p.state.is_ticked
  same_ticked = ap (λ (t : Turn). t.is_ticked) begun.rest

  awake_now : AreAwake q.state
  awake_now = record {
    order = subst (λ (n : ℕ). AreGiven 0 n q.state.awake.items) (sym begun.count) (subst (λ (ns : List ℕ). AreGiven 0 (length p.state.seats.items) ns) (sym same_awake) may.stands.awake.order);
    others = λ j other here none.
        let out : has_number j p.state.awake.items ≡ false = ap (λ (ns : List ℕ). has_number j ns) (sym same_awake) ∙ none in
        let one : IsAsleep p.state other = may.stands.awake.others j other (sym (begun.others j out) ∙ here) out in
        record { silent = one.silent; ticked = same_ticked ∙ one.ticked };
  }

  -- ---- and the rest

  same_frame : frame false (begin_replies s) ≡ frame false s
  same_frame = frame_of {all = false} (begin_replies-stays s (frame_stays refl))

  free : s.owed ≡ Free
  free = by (is_free s.owed) refl
    where
      by : (b : Bool) → is_free s.owed ≡ b → s.owed ≡ Free
      by true is = is_owed s.owed is
      by false is = absurd (let both : Handling ≡ DecidingAgain = sym (sound.owes is) ∙ may.at in cc both)

  -- behind its phase the disk is at rest
  at_rest : AtRest s
  at_rest = (obeys_good obeys).settled.rests (ap (λ (f : Phase). works f) may.at)

  ended_so : HasEnded number shelf q s
  ended_so = record {
    may = may_it;
    turn = subst (λ (t : State). ShowsTurn number none_leaves q.peers q.state t) (sym ending_is) then_is;
    ready = subst (λ (t : State). AreReady number q.state.cache t.next_instance q.state.seats.items) (sym ending_is) ready_now;
    disk = kept_on shelf p.state.cache q.state.cache s (ending s) begun.outdated (λ key. ap (λ (t : State). row_on_disk t key) ending_is ∙ rows_stay s key) may.stands.disk;
    awake = awake_now;
    closed = ap (λ (t : State). has_closings t) ending_is ∙ closings_stay s ∙ may.closed;
    free = ap (λ (t : State). t.owed) ending_is ∙ ap (λ (f : Frame). f.owed) same_frame ∙ free;
    none = ap (λ (t : State). t.made_room_for) ending_is ∙ ap (λ (f : Frame). f.made_room_for) same_frame ∙ may.stands.deciding.none;
    idle = ap (λ (t : State). t.under_way) ending_is ∙ ap (λ (f : Frame). f.under_way) same_frame ∙ at_rest.idle;
    nothing = ap (λ (t : State). t.agenda.todo) ending_is ∙ ap (λ (f : Frame). f.agenda.todo) same_frame ∙ at_rest.nothing;
    top = ap (λ (t : State). t.top) ending_is ∙ ap (λ (f : Frame). f.top) same_frame;
  }

pub ends : EndsAreTheLaws
ends terms number before shelf p q s obeys may begins bounded = ended_so terms number before shelf p q s obeys may begins bounded
