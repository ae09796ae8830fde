-- What each client follows, and what its exchange joined, is as before behind a change of one client.
use Rattle.std.proofs.Common.{◌≡◌, ◌⊎◌, ◌≤◌, ◌<◌, inl, inr, refl, sym, subst, ap, ap₂, ◌∙◌, ℕ, Bool, true, false, ◌==◌, length, List, [], Option, Some, None, arith}
use Rattle.std.specs.Prelude.{option_and_then, slice_get}
use Rattle.pp_cache.specs.Memory.{Memory}
use Rattle.pp_cache_law.proofs.Numbers.{is_same, some_is}
use Rattle.pp_seats.specs.declared.front.Front.{Front}
use Rattle.pp_cache_law.specs.Tables.{ShowsTable}
use Rattle.pp_turns_law.proofs.StandingOn.{there_by}
use Rattle.pp_flow_law.specs.Tables.{AreGiven, none_leaves}
use Rattle.pp_law.specs.Lists.{Bytes, has_number}
use Rattle.pp_law.specs.State.{State, Brought, Awaited, Useless, Joins, Passes, TooWide, Client, Instance as Known, Reply, Stage, Undecided, Waiting, Passing, Answering}
use Rattle.pp_law.specs.Table.{instance}
use Rattle.pp_objects.specs.Instances.{is_there}
use Rattle.pp_objects.specs.declared.id.ObjectId.{ObjectId}
use Rattle.pp_peers.specs.declared.peers.Peer.{Peer}
use Rattle.pp_seats.specs.Dues.{refused_in}
use Rattle.pp_seats.specs.Follows.{answer_in}
use Rattle.pp_seats.specs.declared.seat.Answer.{Answer}
use Rattle.pp_seats.specs.declared.seat.Brought.{Brought as SeatBrought}
use Rattle.pp_seats.specs.declared.seat.Brought.TheVariants.{Joins as JoinsRow}
use Rattle.pp_seats.specs.declared.seat.Seat.{Seat}
use Rattle.pp_seats.specs.declared.seat.Stage.{Stage as SeatStage}
use Rattle.pp_seats.specs.declared.seat.Stage.TheVariants.{Undecided as IsUndecided, Waiting as IsWaiting, Passing as IsPassing, Answering as AnsweringTo}
use Rattle.pp_seats_law.specs.Replies.{ShowsBrought, ShowsFate, ShowsStage, source_number}
use Rattle.pp_seats_law.specs.Seats.{ShowsOpen}
use Rattle.pp_state.specs.Ends.{parts, source_of}
use Rattle.pp_state.specs.declared.state.State.{State as Turn}
use Rattle.pp_states_law.specs.Steps.{ShowsSteps}
use Rattle.pp_states_law.specs.Told.{IsTold}
use Rattle.pp_turns_law.proofs.First.{IsShownAt, seat_shown}
use Rattle.pp_turns_law.specs.Firsts.{AreAwake, IsAsleep}
use Rattle.pp_turns_law.specs.Rows.{AreReady, IsReady}
use Rattle.pp_turns_law.specs.Turns.{IsFollowing}
use Rattle.pp_deciding_law.proofs.Keeps.{HasOwn, Keeps}

-- ---- what a seat follows, and what its exchange joined, are what its client does

record IsAnsweredFrom (number : ℕ → ℕ) (c : Client) (id : ObjectId) : Type 0 where
  reply : Reply
  stage : c.stage ≡ Answering reply
  source : reply.source ≡ Some (number id.life)

answered_from : (number : ℕ → ℕ) (name : Bytes) (seat : Seat) (c : Client) (a : Answer) (id : ObjectId) → ShowsOpen number name [] seat c → answer_in seat.stage ≡ Some a → a.source ≡ Some id → IsAnsweredFrom number c id
answered_from number name seat c a id shows answer source = by seat.stage c.stage refl shows.stage answer
  where
    by : (t : SeatStage) (u : Stage) → c.stage ≡ u → ShowsStage number seat.client.reply t u → answer_in t ≡ Some a → IsAnsweredFrom number c id
    by (AnsweringTo b) (Answering r) is stage its =
        let same : b ≡ a = some_is b a its in
        record { reply = r; stage = is; source = sym stage.source ∙ ap (λ (x : Answer). source_number number x.source) same ∙ ap (λ (o : Option ObjectId). source_number number o) source }
    by IsUndecided u is stage its = absurd (cc its)
    by IsWaiting u is stage its = absurd (cc its)
    by IsPassing u is stage its = absurd (cc its)
    by (AnsweringTo b) Undecided is stage its = absurd stage
    by (AnsweringTo b) Waiting is stage its = absurd stage
    by (AnsweringTo b) Passing is stage its = absurd stage

joined_as : (number : ℕ → ℕ) (name : Bytes) (seat : Seat) (c : Client) (id : ObjectId) (plain : Bool) → ShowsOpen number name [] seat c → seat.brought ≡ JoinsRow id plain → c.brought ≡ Joins (number id.life) plain
joined_as number name seat c id plain shows brought =
    by c.brought refl (subst (λ (b : SeatBrought). ShowsFate number name [] seat.client.reply seat.course b c) brought shows.fate).1
  where
    by : (o : Brought) → c.brought ≡ o → ShowsBrought number name seat.client.reply c.front (JoinsRow id plain) o → c.brought ≡ Joins (number id.life) plain
    by (Joins n other) is shown = is ∙ ap₂ (λ (k : ℕ) (b : Bool). Joins k b) (sym shown.0) (sym shown.1)
    by Awaited is shown = absurd shown
    by Useless is shown = absurd shown
    by (Passes x) is shown = absurd shown
    by TooWide is shown = absurd shown

lower : (a b c : ℕ) → a < b → b ≤ c → a < c
lower a b c one two = omega (arith, one, two)

-- ---- what stands behind a change of one client

-- the seat at a place was one there before it
pub record WasThere (q : Turn) (j : ℕ) (new : Seat) : Type 0 where
  pub old : Seat
  pub here : slice_get q.seats.items j ≡ Some old
  pub front : new.front ≡ old.front
  pub going : new.is_closing ≡ false → old.is_closing ≡ false
  pub joins : (id : ObjectId) (plain : Bool) → new.brought ≡ JoinsRow id plain → old.brought ≡ JoinsRow id plain
  pub follows : (id : ObjectId) → source_of new ≡ Some id → (source_of old ≡ Some id) ⊎ (is_there id q.cache.instances ≡ true)

-- what each client of the law is answered from is there, and what its exchange joined was made before
pub record AreSourced (t : State) : Type 0 where
  pub source : (j : ℕ) (c : Client) (r : Reply) (id : ℕ) → slice_get t.clients j ≡ Some c → c.is_closing ≡ false → c.stage ≡ Answering r → r.source ≡ Some id → (x : Known) × (instance t id ≡ Some x)
  pub made : (j : ℕ) (c : Client) (id : ℕ) (plain : Bool) → slice_get t.clients j ≡ Some c → c.brought ≡ Joins id plain → id < t.next_instance

module _ (number : ℕ → ℕ) (name : Bytes) (peers : List Peer) (i : ℕ) (q m : Turn) (s t : State) (seat : Seat) (before : ShowsTable number q.cache s) (ready : AreReady number q.cache s.next_instance q.seats.items) (here : slice_get q.seats.items i ≡ Some seat) (keeps : Keeps q.cache i (parts q) (parts m))
    (shows : ShowsSteps number name none_leaves peers (parts m) t) (sourced : AreSourced t) where
  pub was_there : (j : ℕ) (new : Seat) → slice_get m.seats.items j ≡ Some new → WasThere q j new
  was_there j new at = by (i == j) refl
    where
      by : (b : Bool) → (i == j) ≡ b → WasThere q j new
      by false apart = record { old = new; here = sym (keeps.others j apart) ∙ at; front = refl; going = λ goes. goes; joins = λ id plain is. is; follows = λ id is. inl is }
      by true same =
          let own : HasOwn q.cache i (parts m) seat = keeps.own seat here in
          let is : own.new ≡ new = some_is own.new new (sym own.here ∙ ap (λ (k : ℕ). slice_get m.seats.items k) (is_same i j same) ∙ at) in
          record {
            old = seat;
            here = ap (λ (k : ℕ). slice_get q.seats.items k) (sym (is_same i j same)) ∙ here;
            front = ap (λ (x : Seat). x.front) (sym is) ∙ own.is.front;
            going = λ goes. own.is.going (ap (λ (x : Seat). x.is_closing) is ∙ goes);
            joins = λ id plain brought. own.is.joins id plain (ap (λ (x : Seat). x.brought) is ∙ brought);
            follows = λ id source. own.is.follows id (ap (λ (x : Seat). source_of x) is ∙ source);
          }

  no_more : (id : ObjectId) → is_there id m.cache.instances ≡ true → is_there id q.cache.instances ≡ true
  no_more id there = (keeps.stands 0).there id there

  record IsShownNow (j : ℕ) (new : Seat) : Type 0 where
    client : Client
    at : slice_get t.clients j ≡ Some client
    closing : client.is_closing ≡ false
    shown : ShowsOpen number name [] new client

  shown_now : (j : ℕ) (new : Seat) → slice_get m.seats.items j ≡ Some new → new.is_closing ≡ false → IsShownNow j new
  shown_now j new at going =
      let one : IsShownAt number name m.seats.items t.clients j = seat_shown number name m.seats.items t.clients j new shows.shows.clients at in
      let same : one.seat ≡ new = some_is one.seat new (sym one.here ∙ at) in
      let closing : one.client.is_closing ≡ false = sym one.shows.closing ∙ ap (λ (x : Seat). x.is_closing) same ∙ going in
      record { client = one.client; at = one.there; closing = closing; shown = subst (λ (x : Seat). ShowsOpen number name [] x one.client) same (one.shows.going closing) }

  old_ready : (j : ℕ) (new : Seat) (was : WasThere q j new) → new.is_closing ≡ false → IsReady number q.cache s.next_instance was.old
  old_ready j new was going = ready j was.old was.here (was.going going)

  was_followed : (old : Seat) (id : ObjectId) → IsFollowing q.cache old → source_of old ≡ Some id → is_there id q.cache.instances ≡ true
  was_followed old id follows source = by (answer_in old.stage) refl source
    where
      by : (o : Option Answer) → answer_in old.stage ≡ o → option_and_then (λ (a : Answer). a.source) o ≡ Some id → is_there id q.cache.instances ≡ true
      by None is at = absurd (cc at)
      by (Some a) is at = follows a id is at

  pub follows_now : (j : ℕ) (new : Seat) → slice_get m.seats.items j ≡ Some new → new.is_closing ≡ false → IsFollowing m.cache new
  follows_now j new at going a id answer source =
      let was : WasThere q j new = was_there j new at in
      let shown : IsShownNow j new = shown_now j new at going in
      let own : IsAnsweredFrom number shown.client id = answered_from number name new shown.client a id shown.shown answer source in
      let law : (x : Known) × (instance t (number id.life) ≡ Some x) = sourced.source j shown.client own.reply (number id.life) shown.at shown.closing own.stage own.source in
      there_by number q.cache m.cache s t id law.0 before shows.shows.table.table (by was (was.follows id (ap (λ (o : Option Answer). option_and_then (λ (b : Answer). b.source) o) answer ∙ source))) no_more law.1
    where
      by : (was : WasThere q j new) → (source_of was.old ≡ Some id) ⊎ (is_there id q.cache.instances ≡ true) → is_there id q.cache.instances ≡ true
      by was (inl is) = was_followed was.old id (old_ready j new was going).follows is
      by was (inr there) = there

  joined_now : (j : ℕ) (new : Seat) → slice_get m.seats.items j ≡ Some new → new.is_closing ≡ false → (id : ObjectId) (plain : Bool) → new.brought ≡ JoinsRow id plain → IsTold number m.cache t.next_instance id
  joined_now j new at going id plain brought =
      let was : WasThere q j new = was_there j new at in
      let shown : IsShownNow j new = shown_now j new at going in
      let told : IsTold number q.cache s.next_instance id = (old_ready j new was going).joined id plain (was.joins id plain brought) in
      record {
        given = lower id.life q.cache.lives m.cache.lives told.given (keeps.stands 0).lives;
        made = sourced.made j shown.client (number id.life) plain shown.at (joined_as number name new shown.client id plain shown.shown brought);
        apart = λ other there. told.apart other (no_more other there);
      }

  -- each that goes on can be decided
  pub ready_now : AreReady number m.cache t.next_instance m.seats.items
  ready_now j new at going =
      let was : WasThere q j new = was_there j new at in
      record {
        follows = follows_now j new at going;
        key = λ refused. (old_ready j new was going).key (ap (λ (f : Front). refused_in f) (sym was.front) ∙ refused);
        joined = joined_now j new at going;
      }

-- ---- who is not looked at is asleep still

pub awake_now : (q m : Turn) (k : Memory) (i : ℕ) → Keeps k i (parts q) (parts m) → m.awake.items ≡ q.awake.items → m.is_ticked ≡ q.is_ticked → has_number i q.awake.items ≡ true → AreAwake q → AreAwake m
awake_now q m k i keeps awake ticked looked_at before = record {
  order = subst (λ (n : ℕ). AreGiven 0 n m.awake.items) (sym keeps.count) (subst (λ (ns : List ℕ). AreGiven 0 (length q.seats.items) ns) (sym awake) before.order);
  others = λ j other here none.
      let out : has_number j q.awake.items ≡ false = ap (λ (ns : List ℕ). has_number j ns) (sym awake) ∙ none in
      let one : IsAsleep q other = before.others j other (sym (keeps.others j (not_it j out)) ∙ here) out in
      record { silent = one.silent; ticked = ticked ∙ one.ticked };
}
  where
    not_it : (j : ℕ) → has_number j q.awake.items ≡ false → (i == j) ≡ false
    not_it j none = by (i == j) refl
      where
        by : (b : Bool) → (i == j) ≡ b → b ≡ false
        by false is = refl
        by true is = absurd (let both : true ≡ false = sym looked_at ∙ ap (λ (l : ℕ). has_number l q.awake.items) (is_same i j is) ∙ none in cc both)
