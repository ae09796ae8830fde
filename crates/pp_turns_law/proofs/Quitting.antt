-- A client follows nothing any more, or another instance: the table is swept behind it.
use Rattle.std.proofs.Common.{◌≡◌, ◌≤◌, ◌<◌, refl, sym, subst, ap, ap₂, ◌∙◌, ℕ, ◌+◌, ◌-◌, Bool, true, false, ◌==◌, ◌&&◌, not, cond, nat_lt, find, List, [], ◌∷◌, Some, None, Option, option_map, arith}
use Rattle.std.proofs.lemmas.Bool.Decides.{nat_tests}
use Rattle.std.specs.Prelude.{count_by, option_and_then, slice_get, slice_set}
use Rattle.pp_cache.specs.Memory.{Memory}
use Rattle.pp_cache_law.proofs.Alike.{instances_of}
use Rattle.pp_cache_law.proofs.Framing.{frames_of, the_same}
use Rattle.pp_cache_law.proofs.Leaving.{leavings_of}
use Rattle.pp_cache_law.proofs.Moves.{changed_if, in_slot-changed, in_slot-elsewhere, in_slot-gone}
use Rattle.pp_cache_law.proofs.Numbers.{is_same, some_is}
use Rattle.pp_cache_law.proofs.Sweeping.{sweeps_none}
use Rattle.pp_cache_law.specs.Changes.{IsFollowedToo}
use Rattle.pp_cache_law.specs.Reads.{IsFound}
use Rattle.pp_cache_law.specs.Tables.{AreFollowed, ShowsCache}
use Rattle.pp_flow.specs.Changes.{Exchanges}
use Rattle.pp_flow_law.proofs.Framed.{frames as flow_frames}
use Rattle.pp_flow_law.specs.Tables.{Leaving}
use Rattle.pp_law.specs.Connections.{exchange, is_client, on_client}
use Rattle.pp_law.specs.Lists.{Bytes, change, is_some_with, is_this}
use Rattle.pp_law.specs.Stages.{reply_of}
use Rattle.pp_law.specs.State.{State, Client, Reply, Stage, Undecided, Waiting, Passing, Answering}
use Rattle.pp_law.specs.Table.{follows, swept}
use Rattle.pp_objects.specs.Changes.{changed_in, given_back, is_last, left, left_from, without_slot}
use Rattle.pp_objects.specs.Instances.{Instance, followers_of, in_slot, is_life, is_there}
use Rattle.pp_objects.specs.declared.id.ObjectId.{ObjectId}
use Rattle.pp_client.specs.Replies.{Reply as Said}
use Rattle.pp_seats.specs.Follows.{answer_in}
use Rattle.pp_seats.specs.declared.seat.Seat.{Seat}
use Rattle.pp_seats.specs.declared.seat.Stage.{Stage as SeatStage}
use Rattle.pp_seats.specs.declared.seat.Stage.TheVariants.{Undecided as IsUndecided, Waiting as IsWaiting, Passing as IsPassing, Answering as IsAnswering}
use Rattle.pp_seats_law.proofs.AllSeats.{changes_there as seats_change}
use Rattle.pp_seats_law.proofs.Nexts.{reply_in}
use Rattle.pp_seats_law.specs.Clients.{AreShown, IsAt}
use Rattle.pp_seats_law.specs.Replies.{ShowsStage, source_number}
use Rattle.pp_states_law.proofs.Asked.{all_as, frames, itself}
use Rattle.pp_states_law.specs.Clients.{GoesOnAs}
use Rattle.pp_states_law.specs.States.{Parts as Whole, ShowsState}
use Rattle.pp_state.specs.Ends.{followed_less, unfollowed}
use Rattle.pp_turns_law.proofs.Changed.{client_changed, counts_moved, counts_same}

-- ---- what it followed

pub follows_one : (number : ℕ → ℕ) (k : ℕ) (id : ObjectId) (said : Said) (stage : SeatStage) (other : Stage) → ShowsStage number said stage other → option_and_then (λ a. a.source) (answer_in stage) ≡ Some id
    → is_some_with (λ r. is_this k r.source) (reply_in other) ≡ (k == number id.life)
follows_one number k id said IsUndecided Undecided shows is = absurd (cc is)
follows_one number k id said IsWaiting Waiting shows is = absurd (cc is)
follows_one number k id said IsPassing Passing shows is = absurd (cc is)
follows_one number k id said (IsAnswering a) (Answering r) shows is =
    ap (λ (o : Option ℕ). is_this k o) (sym shows.source ∙ ap (λ (o : Option ObjectId). source_number number o) is) ∙ other_way (number id.life) k
  where
    other_way : (m n : ℕ) → (m == n) ≡ (n == m)
    other_way m n = grind (arith, nat_tests)
follows_one number k id said stage other shows is = absurd shows

-- ---- one client less follows it

one_less : (a b : ℕ) (x : Bool) → a + cond x 1 0 ≡ b + 0 → b ≡ a + cond x 1 0
one_less a b x same = omega (arith, same)

module _ (number : ℕ → ℕ) (name : Bytes) (owed : List Bytes) (n i : ℕ) (f : Client → Client) (seats : List Seat) (s : State) (c : Client) (shown : AreShown number name owed seats s.clients) (at : IsAt n i seats) (there : find (is_client n) s.clients ≡ Some c)
    (alone : (k : ℕ) → follows k (f c) ≡ false) where
  pub followed_less_by : (id : ObjectId) → ((k : ℕ) → follows k c ≡ (k == number id.life)) → IsFollowedToo (number id.life) (change (is_client n) f s.clients) s.clients
  followed_less_by id followed k =
      one_less (count_by (follows k) (change (is_client n) f s.clients)) (count_by (follows k) s.clients) (k == number id.life)
      (ap (λ (b : Bool). count_by (follows k) (change (is_client n) f s.clients) + cond b 1 0) (sym (followed k))
      ∙ counts_moved number name owed (follows k) n i f seats s.clients c shown at there ∙ ap (λ (b : Bool). count_by (follows k) s.clients + cond b 1 0) (alone k))

  pub followed_same_by : ((k : ℕ) → follows k c ≡ false) → (k : ℕ) → count_by (follows k) (change (is_client n) f s.clients) ≡ count_by (follows k) s.clients
  followed_same_by none k = counts_same number name owed (follows k) n i f seats s.clients c shown at there (alone k ∙ sym (none k))

-- ---- so that it is counted there

is_counted : (b k : ℕ) (f : ℕ) → f ≡ b → b ≡ k + 1 → nat_lt 0 f ≡ true
is_counted b k f same more = grind (arith, nat_tests, same, more)

pub less_is : (number : ℕ → ℕ) (m : Memory) (s : State) (id : ObjectId) (cs : List Client) → ShowsCache number m s → is_there id m.instances ≡ true → IsFollowedToo (number id.life) cs s.clients → unfollowed id m ≡ followed_less id m
less_is number m s id cs shows there less = by (is_there id m.instances) (nat_lt 0 (followers_of (in_slot id.slot m.instances))) there counted
  where
    one : IsFound number m s id
    one = instances_of number m s shows.table id there

    itself_is : (k : ℕ) → (k == k) ≡ true
    itself_is k = grind (arith, nat_tests)

    numbered : one.known.id ≡ number id.life
    numbered = sym one.shows.id ∙ ap (λ (j : ObjectId). number j.life) one.same

    counted : nat_lt 0 (followers_of (in_slot id.slot m.instances)) ≡ true
    counted =
        ap (λ (o : Option Instance). nat_lt 0 (followers_of o)) one.here
        ∙ is_counted (count_by (follows one.known.id) s.clients) (count_by (follows one.known.id) cs) one.seen.followers one.shows.followers
        (less one.known.id ∙ ap (λ (b : Bool). count_by (follows one.known.id) cs + cond b 1 0) (ap (λ (k : ℕ). one.known.id == k) (sym numbered) ∙ itself_is one.known.id))

    by : (a b : Bool) → a ≡ true → b ≡ true → cond (a && b) (followed_less id m) m ≡ followed_less id m
    by true true one two = refl
    by false b one two = absurd (cc one)
    by true false one two = absurd (cc two)

-- ---- in all

abbrev pub left_memory : Option ObjectId → Memory → Memory
left_memory None m = m
left_memory (Some id) m = unfollowed id m

swept_shows : (number : ℕ → ℕ) (name : Bytes) (owed : List Bytes) (l : Leaving) (p : Whole) (s : State) (m : Memory) → ShowsState number name owed l p s → ShowsCache number m (swept s) → ShowsState number name owed l (record p { memory = m }) (swept s)
unfolding swept
swept_shows number name owed l p s m shows table = record {
  clients = shows.clients;
  exchanges = flow_frames number l p.flow s shows.exchanges l (swept s) (record { exchanges = refl; next = refl; lines = λ k. refl });
  table = table;
  conns = frames s (swept s) p.peers s.conns (all_as s (swept s) (λ k. itself (exchange s k)) s.conns) shows.conns;
}

ahead_swept : (s : State) → ((n : ℕ) → s.next_instance ≤ n → count_by (follows n) s.clients ≡ 0) → (n : ℕ) → (swept s).next_instance ≤ n → count_by (follows n) (swept s).clients ≡ 0
unfolding swept
ahead_swept s ahead = ahead

-- nothing is left over where nobody left
pub still_swept : (number : ℕ → ℕ) (m : Memory) (s : State) → ShowsCache number m s → ShowsCache number m (swept s)
still_swept number m s shows = record { table = sweeps_none number m s shows.table shows.followed; followed = shows.followed; ahead = ahead_swept s shows.ahead }

-- what one follows that is to follow nothing
abbrev pub IsLeftBy : (ℕ → ℕ) → Memory → Client → Option ObjectId → Type 0
IsLeftBy number m c None = (k : ℕ) → follows k c ≡ false
IsLeftBy number m c (Some id) = (is_there id m.instances ≡ true) × ((k : ℕ) → follows k c ≡ (k == number id.life))

pub client_left : (number : ℕ → ℕ) (name : Bytes) (owed : List Bytes) (l : Leaving) (p : Whole) (s : State) → ShowsState number name owed l p s → (n i : ℕ) (new : Seat) (f : Client → Client) (c : Client) (o : Option ObjectId) → IsAt n i p.seats
    → find (is_client n) s.clients ≡ Some c → ((k : ℕ) → follows k (f c) ≡ false) → IsLeftBy number p.memory c o → GoesOnAs number name owed p.seats s.clients n i new f
    → ShowsState number name owed l (record p { seats = slice_set p.seats i new; memory = left_memory o p.memory }) (swept (on_client n f s))
unfolding swept on_client
client_left number name owed l p s shows n i new f c None at there alone leaves goes =
    let counts : (k : ℕ) → count_by (follows k) (change (is_client n) f s.clients) ≡ count_by (follows k) s.clients = followed_same_by number name owed n i f p.seats s c shows.clients at there alone leaves in
    let changed : ShowsState number name owed l (record p { seats = slice_set p.seats i new }) (on_client n f s) = client_changed number name owed l p s shows n i new f at counts goes in
    swept_shows number name owed l (record p { seats = slice_set p.seats i new }) (on_client n f s) p.memory changed (still_swept number p.memory (on_client n f s) changed.table)
client_left number name owed l p s shows n i new f c (Some id) at there alone leaves goes =
    let less : IsFollowedToo (number id.life) (change (is_client n) f s.clients) s.clients = followed_less_by number name owed n i f p.seats s c shows.clients at there alone id leaves.1 in
    record {
      clients = seats_change number name owed p.seats s.clients n i new f shows.clients at goes;
      exchanges = flow_frames number l p.flow s shows.exchanges l (swept (on_client n f s)) (record { exchanges = refl; next = refl; lines = λ k. refl });
      table =
          subst (λ (m : Memory). ShowsCache number m (swept (on_client n f s))) (sym (less_is number p.memory s id (change (is_client n) f s.clients) shows.table leaves.0 less))
          (leavings_of number p.memory s shows.table id (change (is_client n) f s.clients) leaves.0 less);
      conns = frames s (swept (on_client n f s)) p.peers s.conns (all_as s (swept (on_client n f s)) (λ k. itself (exchange s k)) s.conns) shows.conns;
    }
