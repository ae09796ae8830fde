-- Each client can be decided still, and who is not looked at is asleep still, where clients stay as they were and no instance comes in.
use Rattle.std.proofs.Common.{◌≡◌, ◌≤◌, ◌<◌, refl, sym, subst, ap, ap₂, ◌∙◌, ℕ, Bool, true, false, ◌&&◌, not, length, List, [], Option, Some, None, arith}
use Rattle.std.specs.Prelude.{slice_get}
use Rattle.pp_cache.specs.Memory.{Memory}
use Rattle.pp_cache_law.proofs.Numbers.{some_is}
use Rattle.pp_cache_law.specs.Tables.{ShowsTable}
use Rattle.pp_turns_law.proofs.StandingOn.{there_by}
use Rattle.pp_deciding_law.proofs.Disk.{in_place}
use Rattle.pp_deciding_law.proofs.Stays.{AreSourced}
use Rattle.pp_flow_law.specs.Tables.{AreGiven}
use Rattle.pp_law.specs.Lists.{Bytes, has_number}
use Rattle.pp_law.specs.State.{State, Brought, Awaited, Useless, Joins, Passes, TooWide, Client, Instance as Known, Reply, Stage, Undecided, Waiting, Passing, Answering}
use Rattle.pp_law.specs.Table.{instance}
use Rattle.pp_laws_turn.specs.SoundTurn.{IsSoundTurn}
use Rattle.pp_objects.specs.Instances.{is_there}
use Rattle.pp_objects.specs.declared.id.ObjectId.{ObjectId}
use Rattle.pp_seats.specs.Dues.{refused_in}
use Rattle.pp_seats.specs.Follows.{answer_in}
use Rattle.pp_seats.specs.Heads.{is_there_in}
use Rattle.pp_seats.specs.Seats.{is_silent, is_undecided_in}
use Rattle.pp_seats.specs.declared.front.Front.{Front}
use Rattle.pp_seats.specs.declared.seat.Answer.{Answer}
use Rattle.pp_seats.specs.declared.seat.Brought.{Brought as SeatBrought}
use Rattle.pp_seats.specs.declared.seat.Brought.TheVariants.{Joins as JoinsRow}
use Rattle.pp_seats.specs.declared.seat.Seat.{Seat}
use Rattle.pp_seats.specs.declared.seat.Stage.{Stage as SeatStage}
use Rattle.pp_seats.specs.declared.seat.Stage.TheVariants.{Undecided as IsUndecided, Waiting as IsWaiting, Passing as IsPassing, Answering as AnsweringTo}
use Rattle.pp_seats_law.specs.Clients.{AreShown}
use Rattle.pp_seats_law.specs.Replies.{ShowsBrought, ShowsFate, ShowsStage, source_number}
use Rattle.pp_seats_law.specs.Seats.{ShowsOpen}
use Rattle.pp_state.specs.Ends.{parts}
use Rattle.pp_state.specs.declared.state.State.{State as Turn}
use Rattle.pp_states_law.specs.Told.{IsTold}
use Rattle.pp_turns_law.proofs.First.{IsShownAt, seat_shown}
use Rattle.pp_turns_law.specs.Firsts.{AreAwake, IsAsleep}
use Rattle.pp_turns_law.specs.Rows.{AreReady, IsReady}
use Rattle.pp_turns_law.specs.Turns.{IsFollowing}
use Rattle.pp_rounds_law.proofs.Carried.{Carries, Holds, IsSame, WasAt}

-- ---- what a seat follows, and what its exchange joined, are what its client does

record IsAnsweredFrom (number : ℕ → ℕ) (c : Client) (id : ObjectId) : Type 0 where
  reply : Reply
  stage : c.stage ≡ Answering reply
  source : reply.source ≡ Some (number id.life)

answered_from : (number : ℕ → ℕ) (name : Bytes) (seat : Seat) (c : Client) (a : Answer) (id : ObjectId) → ShowsOpen number name [] seat c → answer_in seat.stage ≡ Some a → a.source ≡ Some id → IsAnsweredFrom number c id
answered_from number name seat c a id shows answer source = by seat.stage c.stage refl shows.stage answer
  where
    by : (t : SeatStage) (u : Stage) → c.stage ≡ u → ShowsStage number seat.client.reply t u → answer_in t ≡ Some a → IsAnsweredFrom number c id
    by (AnsweringTo b) (Answering r) is stage its =
        let same : b ≡ a = some_is b a its in
        record { reply = r; stage = is; source = sym stage.source ∙ ap (λ (x : Answer). source_number number x.source) same ∙ ap (λ (o : Option ObjectId). source_number number o) source }
    by IsUndecided u is stage its = absurd (cc its)
    by IsWaiting u is stage its = absurd (cc its)
    by IsPassing u is stage its = absurd (cc its)
    by (AnsweringTo b) Undecided is stage its = absurd stage
    by (AnsweringTo b) Waiting is stage its = absurd stage
    by (AnsweringTo b) Passing is stage its = absurd stage

joined_as : (number : ℕ → ℕ) (name : Bytes) (seat : Seat) (c : Client) (id : ObjectId) (plain : Bool) → ShowsOpen number name [] seat c → seat.brought ≡ JoinsRow id plain → c.brought ≡ Joins (number id.life) plain
joined_as number name seat c id plain shows brought =
    by c.brought refl (subst (λ (b : SeatBrought). ShowsFate number name [] seat.client.reply seat.course b c) brought shows.fate).1
  where
    by : (o : Brought) → c.brought ≡ o → ShowsBrought number name seat.client.reply c.front (JoinsRow id plain) o → c.brought ≡ Joins (number id.life) plain
    by (Joins n other) is shown = is ∙ ap₂ (λ (k : ℕ) (b : Bool). Joins k b) (sym shown.0) (sym shown.1)
    by Awaited is shown = absurd shown
    by Useless is shown = absurd shown
    by (Passes x) is shown = absurd shown
    by TooWide is shown = absurd shown

lower : (a b c : ℕ) → a < b → b ≤ c → a < c
lower a b c one two = omega (arith, one, two)

-- ---- of a sound state

abbrev reply_at : Stage → Option Reply
reply_at stage = elim stage [ Undecided ↦ None | Waiting ↦ None | Passing ↦ None | Answering r ↦ Some r ]

pub sourced : (t : State) → IsSoundTurn t → AreSourced t
sourced t sound = record {
  source = λ j d reply id at going stage source. sound.sources d (in_place j t.clients d at) going reply id (ap (λ (y : Stage). reply_at y) stage) source;
  made = λ j d id plain at brought. sound.made d id plain (in_place j t.clients d at) brought;
}

-- ---- each that goes on

module _ (number : ℕ → ℕ) (name : Bytes) (m k : Memory) (next : ℕ) (seats news : List Seat) (s t : State) (before : ShowsTable number m s) (ready : AreReady number m next seats) (was : (j : ℕ) (new : Seat) → slice_get news j ≡ Some new → (i : ℕ) × WasAt seats i new) (holds : Holds false m k)
    (table : ShowsTable number k t) (shown : AreShown number name [] news t.clients) (sound : AreSourced t) where
  record IsShownNow (j : ℕ) (new : Seat) : Type 0 where
    client : Client
    at : slice_get t.clients j ≡ Some client
    closing : client.is_closing ≡ false
    shows : ShowsOpen number name [] new client

  shown_now : (j : ℕ) (new : Seat) → slice_get news j ≡ Some new → new.is_closing ≡ false → IsShownNow j new
  shown_now j new at going =
      let one : IsShownAt number name news t.clients j = seat_shown number name news t.clients j new shown at in
      let same : one.seat ≡ new = some_is one.seat new (sym one.here ∙ at) in
      let closing : one.client.is_closing ≡ false = sym one.shows.closing ∙ ap (λ (x : Seat). x.is_closing) same ∙ going in
      record { client = one.client; at = one.there; closing = closing; shows = subst (λ (x : Seat). ShowsOpen number name [] x one.client) same (one.shows.going closing) }

  no_more : (id : ObjectId) → is_there id k.instances ≡ true → is_there id m.instances ≡ true
  no_more id there = (holds 0).there id there

  was_ready : (j : ℕ) (new : Seat) (at : slice_get news j ≡ Some new) → new.is_closing ≡ false → IsReady number m next (was j new at).1.old
  was_ready j new at going = let old : (i : ℕ) × WasAt seats i new = was j new at in ready old.0 old.1.old old.1.here (sym old.1.is.closing ∙ going)

  follows_now : (j : ℕ) (new : Seat) → slice_get news j ≡ Some new → new.is_closing ≡ false → IsFollowing k new
  follows_now j new at going a id answer source =
      let old : (i : ℕ) × WasAt seats i new = was j new at in
      let now : IsShownNow j new = shown_now j new at going in
      let own : IsAnsweredFrom number now.client id = answered_from number name new now.client a id now.shows answer source in
      let law : (x : Known) × (instance t (number id.life) ≡ Some x) = sound.source j now.client own.reply (number id.life) now.at now.closing own.stage own.source in
      there_by number m k s t id law.0 before table ((was_ready j new at going).follows a id (ap (λ (u : SeatStage). answer_in u) (sym old.1.is.stage) ∙ answer) source) no_more law.1

  joined_now : (j : ℕ) (new : Seat) → slice_get news j ≡ Some new → new.is_closing ≡ false → (id : ObjectId) (plain : Bool) → new.brought ≡ JoinsRow id plain → IsTold number k t.next_instance id
  joined_now j new at going id plain brought =
      let old : (i : ℕ) × WasAt seats i new = was j new at in
      let now : IsShownNow j new = shown_now j new at going in
      let told : IsTold number m next id = (was_ready j new at going).joined id plain (old.1.is.joins id plain brought) in
      record {
        given = lower id.life m.lives k.lives told.given (holds 0).lives;
        made = sound.made j now.client (number id.life) plain now.at (joined_as number name new now.client id plain now.shows brought);
        apart = λ other there. told.apart other (no_more other there);
      }

  pub ready_on : AreReady number k t.next_instance news
  ready_on j new at going =
      let old : (i : ℕ) × WasAt seats i new = was j new at in
      record {
        follows = follows_now j new at going;
        key = λ refused. (was_ready j new at going).key (ap (λ (f : Front). refused_in f) (sym old.1.is.front) ∙ refused);
        joined = joined_now j new at going;
      }

-- ---- who is not looked at

abbrev silent_by : SeatStage → Front → Bool → Bool → Bool
silent_by stage front hung_up closing = is_undecided_in stage && not (is_there_in front) && not hung_up && not closing

pub silent_still : (seat new : Seat) → IsSame seat new → is_silent new ≡ is_silent seat
silent_still seat new same =
    ap (λ (u : SeatStage). silent_by u new.front new.has_hung_up new.is_closing) same.stage
    ∙ ap (λ (f : Front). silent_by seat.stage f new.has_hung_up new.is_closing) same.front
    ∙ ap (λ (b : Bool). silent_by seat.stage seat.front b new.is_closing) same.hung_up
    ∙ ap (λ (b : Bool). silent_by seat.stage seat.front seat.has_hung_up b) same.closing

pub awake_on : (exact : Bool) (p q : Turn) → Carries exact (parts p) (parts q) → q.awake.items ≡ p.awake.items → q.is_ticked ≡ p.is_ticked → AreAwake p → AreAwake q
awake_on exact p q carries awake ticked before = record {
  order = subst (λ (n : ℕ). AreGiven 0 n q.awake.items) (sym carries.count) (subst (λ (ns : List ℕ). AreGiven 0 (length p.seats.items) ns) (sym awake) before.order);
  others = λ j new at none.
      let old : WasAt p.seats.items j new = carries.each j new at in
      let one : IsAsleep p old.old = before.others j old.old old.here (ap (λ (ns : List ℕ). has_number j ns) (sym awake) ∙ none) in
      record { silent = silent_still old.old new old.is ∙ one.silent; ticked = ticked ∙ one.ticked };
}
