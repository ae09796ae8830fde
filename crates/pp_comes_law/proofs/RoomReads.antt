-- Amid a read of an origin a chunk is free for each piece of a body: where the read begins there is room for 31 chunks, and it brings no more than 24.
use Rattle.std.proofs.Common.{◌≡◌, ◌⊎◌, ◌≤◌, refl, sym, subst, ap, ◌∙◌, ℕ, zero, suc, ◌+◌, ◌*◌, nat_le, min, Bool, true, false, drop, find, length, List, [], ◌∷◌, Option, Some, None, inl, inr, le_refl, le_trans, arith}
use Rattle.std.proofs.lemmas.List.{append-nil, drop_all}
use Rattle.std.proofs.Math.Nat.{min-le_left}
use Rattle.std.proofs.lemmas.Bool.Decides.{nat_tests}
use Rattle.pp_bodies_law.proofs.Joined.{bounds}
use Rattle.pp_cache_law.proofs.Mark.{mark_is_enough}
use Rattle.pp_cache_law.specs.Joins.{added_behind}
use Rattle.pp_flow.specs.Entries.{is_number}
use Rattle.pp_flow.specs.declared.entry.Entry.{Entry}
use Rattle.pp_flow_law.proofs.Standing.{entry_placed, none_waits}
use Rattle.pp_flow_law.specs.Tables.{Leaving, none_leaves}
use Rattle.pp_framing.specs.Rules.{body_of}
use Rattle.pp_grown_law.proofs.Numbers.{Rise, rise_of, shown_numbered}
use Rattle.pp_grown_law.proofs.SizeReads.{got_size}
use Rattle.pp_law.specs.Asking.{is_read}
use Rattle.pp_law.specs.Chunks.{joined}
use Rattle.pp_law.specs.Connections.{close_conn, conn, exchange, front_of_line, is_conn, on_conn}
use Rattle.pp_law.specs.Lists.{Bytes}
use Rattle.pp_law.specs.Phases.{is_free}
use Rattle.pp_law.specs.Responses.{Piece, body_piece, body_piece_of, head_came, payload_of, with_unread}
use Rattle.pp_law.specs.Stages.{bound_of}
use Rattle.pp_law.specs.State.{State, Answer, Bound, Conn, Exchange, Instance as Known, Owed, Term, ReadOf}
use Rattle.pp_law.specs.Table.{extent_of, instance, is_instance}
use Rattle.pp_laws.proofs.Lists.{in_find, one_of}
use Rattle.pp_laws.proofs.Sound.{Sound, conn_number, facts_of as sound_facts}
use Rattle.pp_laws.proofs.Tests.{same_number, second_holds}
use Rattle.pp_laws.specs.Runs.{IsIn}
use Rattle.pp_laws_bounds.proofs.Happenings.{from_now}
use Rattle.pp_laws_pool.proofs.PoolFacts.{GoesOn}
use Rattle.pp_laws_room.proofs.RoomLaws.{turns_have_room}
use Rattle.pp_obeys.specs.Obeys.{Obeys}
use Rattle.pp_origins.specs.Gots.{Both, sides_of}
use Rattle.pp_objects.specs.Instances.{is_there}
use Rattle.pp_peers.specs.declared.peers.Peer.{Peer}
use Rattle.pp_reads_law.specs.Brings.{IsBehindHead, IsBehindPiece, IsMoment, LeadsTo}
use Rattle.pp_reads_law.specs.Pieces.{data_in}
use Rattle.pp_seats_law.proofs.Entries.{exchanges}
use Rattle.pp_seats_law.specs.Exchanges.{Binding, ShowsBound, ShowsExchange}
use Rattle.pp_state.specs.Ends.{parts}
use Rattle.pp_state.specs.declared.state.State.{State as Turn}
use Rattle.pp_states_law.proofs.Made.{gone_too}
use Rattle.pp_states_law.proofs.Told.{told_of}
use Rattle.pp_states_law.specs.Steps.{ShowsSteps}
use Rattle.pp_states_law.specs.Told.{IsTold, IsToldBy}
use Rattle.pp_store.specs.Kept.{KeptMap}
use Rattle.pp_turns_law.proofs.GivenUp.{waiting_in_order}
use Rattle.pp_turns_law.specs.Sides.{ShowsSides}
use Rattle.pp_world.specs.Log.{Log}
use Rattle.pp_comes_law.proofs.GotPieces.{Comes, going_of}
use Rattle.pp_comes_law.proofs.KeptRows.{AreWhole, ends_so}
use Rattle.pp_comes_law.proofs.MarkReads.{HasSpace, body_space, cleared_space, free, head_space, in_mark}
use Rattle.pp_comes_law.proofs.NotedEnds.{first_in}

-- ---- where the read begins

pub few_bytes : (most : ℕ) (bytes : Bytes) → is_read most bytes ≡ true → length bytes ≤ 32768
few_bytes most bytes is = by (min-le_left 32768 most) (second_holds (nat_le 1 (length bytes)) (nat_le (length bytes) (min 32768 most)) is)
  where
    by : min 32768 most ≤ 32768 → nat_le (length bytes) (min 32768 most) ≡ true → length bytes ≤ 32768
    by le some = grind (arith, nat_tests)

pub space_first : (terms : List Term) (n : ℕ) (s : State) (log : Log) (all : Bytes) → Obeys terms s log → s.owed ≡ ReadOf n → length all ≤ 32768 → ((k : Conn) → IsIn k s.conns → length k.line ≤ 8) → HasSpace n s.settings.critical s all
space_first terms n s log all obeys owed short lines = record {
  most = length s.chunks;
  asks = 8;
  held = in_mark n (length s.chunks) 8 s (le_refl (length s.chunks)) (λ k i its. lines k i);
  room = inl (let room = (turns_have_room terms s log obeys).owes (ap (λ (o : Owed). is_free o) owed) in omega (arith, room, short));
}

-- ---- at each moment

module _ (name : Bytes) (shelf : KeptMap) (n : ℕ) (begins : Both) (from : State) (all : Bytes) (critical : ℕ) (comes : (pieces : ℕ) (x : Both) (s : State) (bytes : Bytes) → IsMoment pieces name shelf n begins from all x s bytes → Comes s × Sound from_now s) where
  behind_head : (x w : Both) (s u : State) (bytes more : Bytes) → IsBehindHead name shelf n w u more x s bytes → HasSpace n critical u more → HasSpace n critical s bytes
  behind_head x w s u bytes more it h =
      subst (λ (t : State). HasSpace n critical t bytes) (sym it.state)
      (subst (λ (bs : Bytes). HasSpace n critical (head_came it.there.before it.it.head it.there.then) bs) (sym it.left) (head_space n critical it.there.before it.it.head it.there.then more it.it.rest it.it.fewer (by it.there.stands)))
    where
      by : ((it.there.before ≡ it.conn) × (it.there.then ≡ u)) ⊎ ((it.there.before ≡ with_unread [] it.conn) × (it.there.then ≡ on_conn n (with_unread []) u)) → HasSpace n critical it.there.then more
      by (inl same) = subst (λ (t : State). HasSpace n critical t more) (sym same.1) h
      by (inr same) = subst (λ (t : State). HasSpace n critical t more) (sym same.1) (cleared_space n critical n [] u more h)

  behind_piece : (x w : Both) (s u : State) (bytes more : Bytes) → Comes u × Sound from_now u → IsBehindPiece name shelf n w u more x s bytes → HasSpace n critical u more → HasSpace n critical s bytes
  behind_piece x w s u bytes more m it h =
      subst (λ (t : State). HasSpace n critical t bytes) (sym (it.state ∙ ap (λ (p : Piece). p.state) piece))
      (subst (λ (bs : Bytes). HasSpace n critical (body_piece_of it.conn it.answer it.exchange more u).state bs) (sym (it.left ∙ ap (λ (p : Piece). p.rest) piece)) (body_space n critical it.conn it.answer it.exchange line.0 more u here its only line.1 on h))
    where
      piece : body_piece it.conn it.answer more u ≡ body_piece_of it.conn it.answer it.exchange more u
      piece = ap (λ (o : Option Exchange). elim o as (λ c. Piece) [ None ↦ record { state = close_conn false it.conn u; rest = [] } | Some e ↦ body_piece_of it.conn it.answer e more u ]) it.within.front

      among : IsIn it.conn u.conns × (is_conn n it.conn ≡ true)
      among = in_find (is_conn n) it.conn u.conns it.within.on.may.there

      here : IsIn it.conn u.conns
      here = among.0

      its : it.conn.number ≡ n
      its = same_number it.conn.number n among.1

      only : (j : Conn) → IsIn j u.conns → j.number ≡ n → j ≡ it.conn
      only j i number = one_of conn_number u.conns j it.conn (sound_facts m.1).lines.rise i here (number ∙ sym its)

      line : (others : List ℕ) × (it.conn.line ≡ it.exchange.number ∷ others)
      line = first_in u it.conn.line it.exchange it.within.front

      on : GoesOn it.answer
      on = going_of u m.0 it.conn it.answer here it.within.on.answer

  behind_it : (pieces : ℕ) (x w : Both) (s u : State) (bytes more : Bytes) → IsMoment pieces name shelf n begins from all w u more → HasSpace n critical u more → IsBehindHead name shelf n w u more x s bytes ⊎ IsBehindPiece name shelf n w u more x s bytes → HasSpace n critical s bytes
  behind_it pieces x w s u bytes more is h (inl it) = behind_head x w s u bytes more it h
  behind_it pieces x w s u bytes more is h (inr it) = behind_piece x w s u bytes more (comes pieces w u more is) it h

  pub space_at : (pieces : ℕ) (x : Both) (s : State) (bytes : Bytes) → HasSpace n critical from all → IsMoment pieces name shelf n begins from all x s bytes → HasSpace n critical s bytes
  unfolding IsMoment
  space_at zero x s bytes first is = subst (λ (t : State). HasSpace n critical t bytes) (sym is.1) (subst (λ (bs : Bytes). HasSpace n critical from bs) (sym is.2) first)
  space_at (suc pieces) x s bytes first is = behind_it pieces x is.0 s is.1 bytes is.2 is.3 (space_at pieces is.0 is.1 is.2 first is.3) is.4

-- ---- the pool stays as large

pub rises : (number : ℕ → ℕ) (name : Bytes) (l : Leaving) (peers : List Peer) (p : Turn) (s : State) → ShowsSteps number name l peers (parts p) s → Rise p.flow
rises number name l peers p s steps = rise_of p.flow (shown_numbered number l p.flow s (waiting_in_order number name l peers (parts p) s steps) steps.shows.exchanges)

-- from a moment to where the read ends
pub size_there : (number : ℕ → ℕ) (name : Bytes) (shelf : KeptMap) (n : ℕ) (x y : Both) (s : State) → ShowsSides number name (sides_of x) s → LeadsTo shelf n x y → y.state.cache.size ≡ x.state.cache.size
size_there number name shelf n x y s shows leads = (got_size n leads.more shelf leads.behind x y leads.then (rises number name none_leaves x.peers x.state s shows.steps)).size

-- ---- so a chunk is free

-- no data come where no bytes do
nothing_in : (a : Answer) (bytes : Bytes) → bytes ≡ [] → data_in a bytes ≡ []
nothing_in a bytes none =
    ap (λ (bs : Bytes). data_in a bs) none ∙ ap (λ (bs : Bytes). drop (length (payload_of a)) (body_of a.rule bs).payload) (append-nil a.raw) ∙ drop_all (length (payload_of a)) (payload_of a) (le_refl (length (payload_of a)))

none_some : (b : ℕ) (bytes : Bytes) → [] ≡ b ∷ bytes → ⊥
none_some b bytes both = cc both

-- of data that come
abbrev pub HasChunks : Both → State → Answer → Exchange → Bytes → Type 0
HasChunks x s a e bytes = (b : ℕ) (more : Bytes) → data_in a bytes ≡ b ∷ more → (z : Entry) (to : Binding) (c : Bound) (y : Known) → find (is_number e.number) x.state.flow.placed ≡ Some z → z.exchange.bound ≡ Some to → bound_of e ≡ Some c → instance s c.instance ≡ Some y
    → c.next + length (data_in a bytes) ≤ y.version.length → (added_behind (extent_of s y) x.state.cache.size to.0.slot c.next (data_in a bytes) x.state.cache.chunks).need_chunk ≡ false

module _ (number : ℕ → ℕ) (name : Bytes) (n critical : ℕ) (x : Both) (s : State) (bytes : Bytes) (shows : ShowsSides number name (sides_of x) s) (whole : AreWhole s) (comes : Comes s) (so : Sound from_now s) (size : critical ≤ x.state.cache.size) (space : HasSpace n critical s bytes)
    (k : Conn) (a : Answer) (e : Exchange) (there : conn s n ≡ Some k) (has : k.answer ≡ Some a) (front : front_of_line s k ≡ Some e) (known : exchange s e.number ≡ Some e) where
  among : IsIn k s.conns × (is_conn n k ≡ true)
  among = in_find (is_conn n) k s.conns there

  its : k.number ≡ n
  its = same_number k.number n among.1

  line : (others : List ℕ) × (k.line ≡ e.number ∷ others)
  line = first_in s k.line e front

  few : (b : ℕ) (more : Bytes) → data_in a bytes ≡ b ∷ more → (id extent next : ℕ) → length (joined id extent next (data_in a bytes) s.chunks) ≤ critical
  few b more some id extent next = by space.room
    where
      by : (4096 * space.most + length bytes + 8192 * space.asks ≤ 4096 * critical) ⊎ (bytes ≡ []) → length (joined id extent next (data_in a bytes) s.chunks) ≤ critical
      by (inl room) = free n critical k a e line.0 bytes s among.0 its (λ j i same. one_of conn_number s.conns j k (sound_facts so).lines.rise i among.0 (same ∙ sym its)) line.1 (going_of s comes k a among.0 has) space id extent next room
      by (inr none) = absurd (none_some b more (sym (nothing_in a bytes none) ∙ some))

  pub chunk_free : HasChunks x s a e bytes
  chunk_free b more some z to c y placed bound is found within =
      mark_is_enough number x.state.cache s shows.steps.shows.table to.0 y c.next (data_in a bytes) (stays (is_there to.0 x.state.cache.instances) refl) (ap (λ (i : ℕ). instance s i) joins ∙ found) (ends_so s y whole (in_find (is_instance c.instance) y s.instances found).0) within
      (le_trans (few b more some y.id (extent_of s y) c.next) size)
    where
      numbered : z.exchange.number ≡ e.number
      numbered = same_number z.exchange.number e.number (in_find (is_number e.number) z x.state.flow.placed placed).1

      here : find (is_number z.exchange.number) x.state.flow.placed ≡ Some z
      here = ap (λ (i : ℕ). find (is_number i) x.state.flow.placed) numbered ∙ placed

      shown : ShowsExchange number z e
      shown = bounds number none_leaves x.state.flow s z e shows.steps.shows.exchanges here (ap (λ (i : ℕ). exchange s i) numbered ∙ known)

      both : ShowsBound number (Some to) (Some c)
      both = subst (λ (o : Option Bound). ShowsBound number (Some to) o) is (subst (λ (o : Option Binding). ShowsBound number o (bound_of e)) bound (exchanges number z e shown).bound)

      joins : number to.0.life ≡ c.instance
      joins = both.1.joined

      told : IsTold number x.state.cache s.next_instance to.0
      told =
          subst (λ (o : Option Binding). IsToldBy number x.state.cache s.next_instance o) bound
          (told_of number x.state.cache s.next_instance z.exchange.number x.state.flow z shows.steps.told (entry_placed z.exchange.number x.state.flow z (none_waits number none_leaves x.state.flow s shows.steps.shows.exchanges z.exchange.number z here) here))

      none_here : None ≡ Some y → ⊥
      none_here same = cc same

      stays : (t : Bool) → is_there to.0 x.state.cache.instances ≡ t → t ≡ true
      stays true at = refl
      stays false gone = absurd (none_here (sym (gone_too number x.state.cache s to.0 shows.steps.shows.table.table told gone) ∙ ap (λ (i : ℕ). instance s i) joins ∙ found))
