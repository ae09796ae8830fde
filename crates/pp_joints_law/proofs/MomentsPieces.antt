-- From one moment of a read to the next, behind a piece of a body: what is noted, and what has to leave memory, are the same in both.
use Rattle.std.proofs.Common.{◌≡◌, ◌≤◌, ◌<◌, ◌+◌, inl, inr, sym, subst, ap, ◌∙◌, ℕ, ◌-◌, length, min, le_refl, le_trans, arith}
use Rattle.std.specs.Prelude.{count_by}
use Rattle.pp_cache_law.specs.Tables.{ShowsChunk, ShowsTable}
use Rattle.pp_desk.specs.Closings.{Sides}
use Rattle.pp_flow_law.specs.Tables.{none_leaves}
use Rattle.pp_law.specs.Chunks.{trigger}
use Rattle.pp_law.specs.Connections.{on_conn}
use Rattle.pp_law.specs.Lists.{Bytes}
use Rattle.pp_law.specs.Responses.{bad_response as law_bad_response, body_piece, deliver, finish, got, payload_of}
use Rattle.pp_law.specs.State.{State, Answer, Conn, Exchange}
use Rattle.pp_obeys.proofs.Frames.{Frame}
use Rattle.pp_objects.specs.Instances.{is_row}
use Rattle.pp_origins.specs.Gots.{Both, Makes, going_on, sides_of}
use Rattle.pp_origins.specs.Responses.{bad_response, response_whole}
use Rattle.pp_peers.specs.Peers.{is_number}
use Rattle.pp_reads_law.proofs.Amid.{pieces_got}
use Rattle.pp_reads_law.proofs.Delivers.{data_come}
use Rattle.pp_reads_law.proofs.PieceEnds.{GoesOnBehind, HasCome, IsOver, IsOverBy, piece_is_over}
use Rattle.pp_reads_law.specs.Bads.{IsOpen}
use Rattle.pp_reads_law.specs.Brings.{IsBehindPiece}
use Rattle.pp_reads_law.specs.Data.{MayGo}
use Rattle.pp_reads_law.specs.Pieces.{data_in}
use Rattle.pp_state.specs.Ends.{parts}
use Rattle.pp_state.specs.declared.state.State.{State as Turn}
use Rattle.pp_states_law.specs.Readings.{with_raw}
use Rattle.pp_states_law.specs.Steps.{ShowsSteps}
use Rattle.pp_store.specs.Kept.{KeptMap}
use Rattle.pp_turns_law.specs.Sides.{ShowsSides}
use Rattle.std.specs.List.{find}
use Rattle.pp_joints_law.proofs.BytesSteps.{step_on}
use Rattle.pp_joints_law.proofs.Evictions.{alike_still, few_in_both, lengths}
use Rattle.pp_joints_law.proofs.MomentsHeads.{names_in}
use Rattle.pp_joints_law.proofs.MomentsKept.{disk_by, framed_to}
use Rattle.pp_joints_law.proofs.NoMore.{no_more_are_used}
use Rattle.pp_joints_law.proofs.TiedData.{data_few, data_tie}
use Rattle.pp_joints_law.proofs.TiedEnds.{bad_bodies_tie, bads_few, wholes_few, wholes_tie}
use Rattle.pp_joints_law.specs.DataTies.{EvictAlike, IsNoMore, IsTiedBehind}
use Rattle.pp_joints_law.specs.HeadsNote.{IsTied}
use Rattle.pp_joints_law.specs.MomentsNote.{HasRoomFor, NotesAt, PiecesNoteOn}

-- a connection alone is changed
conn_tied : (n : ℕ) (f : Conn → Conn) (p : Turn) (s : State) → IsTied p s → IsTied p (on_conn n f s)
unfolding on_conn
conn_tied n f p s tied = record { noted = tied.noted; named = tied.named; leaves = record { forgotten = tied.leaves.forgotten } }

conn_alike : (n : ℕ) (f : Conn → Conn) (p : Turn) (s : State) → EvictAlike p s → EvictAlike p (on_conn n f s)
unfolding on_conn
conn_alike n f p s alike = alike

module _ (name : Bytes) (shelf : KeptMap) (n : ℕ) (x : Both) (s : State) (bytes : Bytes) (next : Both) (t : State) (rest : Bytes) (number : ℕ → ℕ) (shows : ShowsSides number name (sides_of x) s) (it : IsBehindPiece name shelf n x s bytes next t rest)
    (may : MayGo x.state s it.exchange (data_in it.answer bytes)) (room : HasRoomFor 0 x) (at : NotesAt shelf x s) where
  abbrev k : Conn
  k = it.conn

  abbrev a : Answer
  a = it.answer

  abbrev e : Exchange
  e = it.exchange

  abbrev then_by : Bytes → State
  then_by came = deliver e a (length (payload_of a)) came s

  on : IsOpen s n k
  on = record { there = it.within.on.may.there; goes_on = it.within.on.may.goes_on }

  -- ---- data came

  module _ (came : Bytes) (between : Turn) (has : HasCome x n a bytes came between) where
    may_came : MayGo x.state s e came
    may_came = subst (λ (bs : Bytes). MayGo x.state s e bs) has.is_data may

    pub behind : IsTiedBehind between (then_by came)
    behind = data_tie number name x.peers x.state between s n k e a (length (payload_of a)) came shows.steps on it.within.front may_came has.delivers at.set at.evict at.tied

    pub shown : ShowsSteps number name none_leaves x.peers (parts between) (then_by came)
    shown = data_come number name x.peers x.state between s n k e a (length (payload_of a)) came shows.steps on it.within.front may_came has.delivers

    pub room_between : length between.cache.outdated + count_by is_row between.cache.instances < 2048
    room_between =
        subst (λ (m : ℕ). m < 2048) (sym (data_few number name x.peers x.state between s n k e a (length (payload_of a)) came shows.steps on it.within.front may_came has.delivers))
        (no_more (length x.state.cache.outdated) (count_by is_row x.state.cache.instances) room)
      where
        no_more : (b c : ℕ) → b + c + 0 < 2048 → b + c < 2048
        no_more b c few = omega (arith, few)

  -- ---- and behind them

  abbrev Ends : Type 0
  Ends = IsTiedBehind next.state t

  law_at : (u : State) → (body_piece k a bytes s).state ≡ u → t ≡ u
  law_at u is = it.state ∙ is

  goes_on : GoesOnBehind x next s n k a e bytes → Ends
  goes_on one =
      let both : IsTiedBehind next.state (then_by one.came) = behind one.came next.state one.has in
      subst (λ (u : State). IsTiedBehind next.state u) (sym (law_at (on_conn k.number (with_raw a bytes) (then_by one.came)) one.law_is))
      (record { tied = conn_tied k.number (with_raw a bytes) next.state (then_by one.came) both.tied; evict = conn_alike k.number (with_raw a bytes) next.state (then_by one.came) both.evict })

  is_over_by : (made : Sides → Sides) (law : State → State) → ((z : Both) (u : State) → ShowsTable number z.state.cache u → ShowsTable it.number next.state.cache (law u) → Makes made z next → length z.state.cache.outdated + count_by is_row z.state.cache.instances < 2048 → IsTied z.state u → IsTied next.state (law u))
      → ((u : State) → IsNoMore u (law u)) → IsOverBy made law x next s n k a e bytes → Ends
  is_over_by made law ties no_more one = subst (λ (u : State). IsTiedBehind next.state u) (sym same) (record {
    tied =
        ties (record { state = one.between; peers = one.peers }) (then_by one.came) table table_behind one.makes (room_between one.came one.between one.has) both.tied;
    evict =
        alike_still one.between next.state (then_by one.came) (law (then_by one.came)) (record {
          turn = ap (λ (p : Turn). p.is_evicting) one.makes.rest;
          law = (no_more (then_by one.came)).evicting;
          trigger = ap (λ (p : Turn). p.trigger) one.makes.rest;
          floor = ap (λ (p : Turn). p.floor) one.makes.rest;
          few =
              few_in_both (length next.state.cache.chunks) (length (law (then_by one.came)).chunks) (length (then_by one.came).chunks) (length one.between.cache.chunks)
              (lengths (ShowsChunk it.number next.state.cache) next.state.cache.chunks (law (then_by one.came)).chunks table_behind.chunks) (no_more (then_by one.came)).few
              (lengths (ShowsChunk number one.between.cache) one.between.cache.chunks (then_by one.came).chunks table.chunks);
        }) both.evict;
  })
    where
      both : IsTiedBehind one.between (then_by one.came)
      both = behind one.came one.between one.has

      same : t ≡ law (then_by one.came)
      same = law_at (law (then_by one.came)) one.law_is

      table : ShowsTable number one.between.cache (then_by one.came)
      table = (shown one.came one.between one.has).shows.table.table

      table_behind : ShowsTable it.number next.state.cache (law (then_by one.came))
      table_behind = subst (λ (u : State). ShowsTable it.number next.state.cache u) one.law_is it.over.shows.steps.shows.table.table

  ends : IsOver x next s n k a e bytes → Ends
  ends (inl one) = goes_on one
  ends (inr (inl one)) = is_over_by (response_whole n) (λ u. finish k e a u) (λ z u before then makes few tied. wholes_tie number it.number n k e a z next u before then makes few tied) (λ u. no_more_are_used.wholes k e a u) one
  ends (inr (inr one)) = is_over_by (bad_response n) (λ u. law_bad_response k u) (λ z u before then makes few tied. bad_bodies_tie number it.number n k e a z next u before then makes few tied) (λ u. no_more_are_used.bodies k u) one

  -- ---- what stays

  law_is : got 1 n bytes s ≡ got 0 n rest t
  law_is =
      ap (λ (bs : Bytes). got 1 n bs s) it.some ∙ pieces_got 0 n it.first it.others s k a on it.within.on.answer ∙ ap (λ (bs : Bytes). got 0 n (body_piece k a bs s).rest (body_piece k a bs s).state) (sym it.some)
      ∙ ap (λ (bs : Bytes). got 0 n bs (body_piece k a bytes s).state) (sym it.left) ∙ ap (λ (u : State). got 0 n rest u) (sym it.state)

  same_trigger : trigger t ≡ trigger s
  same_trigger = ap (λ (f : Frame). min f.settings.high (f.settings.critical - 31)) (framed_to 1 0 n bytes rest s t law_is)

  set : next.state.trigger ≡ x.state.trigger
  set = ap (λ (p : Turn). p.trigger) (step_on (going_on (find (is_number n) it.amid.peers)) shelf n it.here it.amid next it.after it.step).set ∙ ap (λ (p : Turn). p.trigger) it.is_amid.state

  both : Ends
  both = ends (piece_is_over number name shelf n x s bytes next t rest shows it may)

  notes_on : NotesAt shelf next t
  notes_on = record { tied = both.tied; evict = both.evict; set = set ∙ at.set ∙ sym same_trigger; disk = disk_by shelf 1 0 n bytes rest s t law_is at.disk }

  -- ---- no more names

  few_between : (came : Bytes) (between : Turn) → HasCome x n a bytes came between → length between.cache.outdated + count_by is_row between.cache.instances ≤ names_in x
  few_between came between has =
      subst (λ (m : ℕ). m ≤ names_in x)
      (sym (data_few number name x.peers x.state between s n k e a (length (payload_of a)) came shows.steps on it.within.front (may_came came between has) has.delivers))
      (le_refl (names_in x))

  few : names_in next ≤ names_in x
  few = by (piece_is_over number name shelf n x s bytes next t rest shows it may)
    where
      by : IsOver x next s n k a e bytes → names_in next ≤ names_in x
      by (inl one) = few_between one.came next.state one.has
      by (inr (inl one)) = le_trans (wholes_few n (record { state = one.between; peers = one.peers }) next one.makes) (few_between one.came one.between one.has)
      by (inr (inr one)) = le_trans (bads_few n (record { state = one.between; peers = one.peers }) next one.makes) (few_between one.came one.between one.has)

pub pieces_note_on : PiecesNoteOn
pieces_note_on name shelf n x s bytes next t rest number shows it may room at = notes_on name shelf n x s bytes next t rest number shows it may room at

pub piece_few : (name : Bytes) (shelf : KeptMap) (n : ℕ) (x : Both) (s : State) (bytes : Bytes) (next : Both) (t : State) (rest : Bytes) (number : ℕ → ℕ) → ShowsSides number name (sides_of x) s → (it : IsBehindPiece name shelf n x s bytes next t rest) → MayGo x.state s it.exchange (data_in it.answer bytes) → HasRoomFor 0 x
    → NotesAt shelf x s → names_in next ≤ names_in x
piece_few name shelf n x s bytes next t rest number shows it may room at = few name shelf n x s bytes next t rest number shows it may room at
