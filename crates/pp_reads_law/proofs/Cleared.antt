-- Where a head is awaited, one step of the pipe is what the law gets of the bytes that came, with what stands before that head.
use Rattle.std.proofs.Common.{◌≡◌, ◌⊎◌, inl, inr, ◌<◌, ◌≤◌, refl, sym, subst, ap, ap₂, ◌∙◌, ℕ, Bool, cond, drop, find, length, List, [], ◌∷◌, ◌++◌, Option, Some, None, arith}
use Rattle.std.proofs.lemmas.List.{length-drop}
use Rattle.std.specs.Prelude.{option_map}
use Rattle.pp_cache.specs.Bounds.{IsBounded}
use Rattle.pp_cache_law.proofs.Finds.{find_passes}
use Rattle.pp_cache_law.proofs.Numbers.{some_is}
use Rattle.pp_turns_law.proofs.Peers.{HasPeer, linked}
use Rattle.pp_turns_law.specs.Sides.{ShowsSides}
use Rattle.pp_endings_law.proofs.GoneShort.{found_set}
use Rattle.pp_endings_law.proofs.Pipes.{pipe_found, with_line}
use Rattle.pp_flow_law.proofs.Entries.{same_number}
use Rattle.pp_flow_law.specs.Tables.{none_leaves}
use Rattle.pp_head.specs.Read.{Whole, More}
use Rattle.pp_head.specs.Response.{Response}
use Rattle.pp_law.specs.Connections.{conn, front_of_line, is_conn, on_conn}
use Rattle.pp_law.specs.Lists.{Bytes}
use Rattle.pp_law.specs.Responses.{Piece, got, head_piece_of, with_unread}
use Rattle.pp_law.specs.State.{State, Answer, Conn, Exchange}
use Rattle.pp_origins.specs.Gots.{Both, HeadCame, IsStep, IsStepOn, Remains, going_on, left_behind, remaining, sides_of}
use Rattle.pp_peers.specs.Peers.{is_number, with_peer, with_pipe}
use Rattle.pp_peers.specs.declared.peers.Peer.{Peer}
use Rattle.pp_peers_law.proofs.Heads.{before}
use Rattle.pp_peers_law.specs.Peers.{ShowsConn, ShowsReading, ShowsStaying}
use Rattle.pp_pipe.specs.Asks.{awaited}
use Rattle.pp_pipe.specs.Feeding.{IsFed, IsFrontTold, IsHeadFed, IsUsed}
use Rattle.pp_pipe.specs.Front.{Front, Final, Unfinished, NoResponse, front_of}
use Rattle.pp_pipe.specs.Line.{Line}
use Rattle.pp_pipe.specs.Reading.{Reading, Before}
use Rattle.pp_pipe.specs.declared.step.Step.{Step}
use Rattle.pp_pipe.specs.declared.step.Step.TheVariants.{Head, Body as BodyStep, End, Bad, Idle}
use Rattle.pp_state.specs.Ends.{parts}
use Rattle.pp_state.specs.declared.state.State.{State as Turn}
use Rattle.pp_states_law.proofs.Alone.{piped as pipe_is}
use Rattle.pp_states_law.proofs.ReadOn.{readings}
use Rattle.pp_states_law.specs.Gots.{IsAmidHead}
use Rattle.pp_states_law.specs.States.{ShowsState}
use Rattle.pp_states_law.specs.Steps.{whole}
use Rattle.pp_store.specs.Kept.{KeptMap}
use Rattle.pp_reads_law.proofs.Amid.{pipe_twice, set_may}
use Rattle.pp_reads_law.proofs.Awaited.{final_is, head_steps}
use Rattle.pp_reads_law.proofs.Gotten.{heads_got, sides_at}
use Rattle.pp_reads_law.proofs.Passing.{interims}
use Rattle.pp_reads_law.specs.Amid.{ShowsRead}
use Rattle.pp_reads_law.specs.Awaits.{HeadFails, HeadIsThere, WaitsForMore, text_of}
use Rattle.pp_reads_law.specs.Gots.{GoesOnBehind, StopsThere}
use Rattle.pp_reads_law.specs.Heads.{HeadIsDue, ShowsBoth, with_head}
use Rattle.pp_reads_law.specs.Interims.{IsClearedTo, IsPassedTo}
use Rattle.pp_reads_law.specs.Clears.{HeadIsGotThere, HeadsAreGotThere, StandsBefore}

-- ---- where nothing but what precedes it is dropped, all stands as before

record IsSet (number : ℕ → ℕ) (shelf : KeptMap) (x : Both) (s : State) (n : ℕ) (k : Conn) (e : Exchange) (peer : Peer) (is : StandsBefore number shelf x s n k e) : Type 0 where
  pipes : (line : Line) → with_pipe n line is.begin.peers ≡ with_pipe n line x.peers
  reads : (left : Reading) → record is.peer.pipe { reading = left } ≡ record peer.pipe { reading = left }

record Cleared (number : ℕ → ℕ) (shelf : KeptMap) (x : Both) (s : State) (n : ℕ) (k : Conn) (e : Exchange) (peer : Peer) (to : Conn) (then : State) : Type 0 where
  is : StandsBefore number shelf x s n k e
  to_is : is.before ≡ to
  then_is : is.then ≡ then
  set : IsSet number shelf x s n k e peer is

module _ (number : ℕ → ℕ) (shelf : KeptMap) (x : Both) (s : State) (n : ℕ) (k : Conn) (e : Exchange) (peer : Peer) (shows : ShowsBoth number shelf x s) (due : HeadIsDue x s n k e peer) (none : k.answer ≡ None) where
  kn : k.number ≡ n
  kn = same_number k.number n (find_passes (is_conn n) s.conns k due.due.on.there)

  abbrev line0 : Line
  line0 = record peer.pipe { reading = Before [] }

  abbrev then0 : State
  then0 = on_conn n (with_unread []) s

  state0 : ShowsState number x.state.name.items [] none_leaves (whole (parts x.state) (with_pipe n line0 x.peers)) then0
  state0 =
      subst (λ (ps : List Peer). ShowsState number x.state.name.items [] none_leaves (whole (parts x.state) ps) then0) (sym (pipe_is n line0 x.peers peer due.linked))
      (subst (λ (m : ℕ). ShowsState number x.state.name.items [] none_leaves (whole (parts x.state) (with_peer m (record peer { pipe = line0 }) x.peers)) (on_conn m (with_unread []) s)) kn
      (readings number x.state.name.items [] none_leaves (whole (parts x.state) x.peers) s shows.read.turn.steps.shows peer k (Before []) peer.stays (λ j. []) (λ j. j.answer) shows.may.apart
      (record { linked = ap (λ (m : ℕ). find (is_number m) x.peers) kn ∙ due.linked; there = ap (λ (m : ℕ). conn s m) kn ∙ due.due.on.there; goes_on = due.due.on.goes_on })
      (subst (λ (o : Option Answer). ShowsReading (Before []) [] o) (sym none) refl)
      (subst (λ (o : Option Answer). ShowsStaying peer.stays o) (sym none) tt)))

  read0 : ShowsRead number none_leaves (with_pipe n line0 x.peers) shelf x.state then0
  unfolding on_conn
  read0 = record {
    turn = record {
      steps = record { shows = state0; order = shows.read.turn.steps.order; told = shows.read.turn.steps.told; refused = shows.read.turn.steps.refused };
      name = shows.read.turn.name;
      shares = shows.read.turn.shares;
      clock = shows.read.turn.clock;
      ticked = shows.read.turn.ticked;
      stopped = shows.read.turn.stopped;
      bounded = shows.read.turn.bounded;
    };
    disk = shows.read.disk;
    may = record { few = shows.read.may.few; busy = shows.read.may.busy; given = shows.read.may.given };
    forgotten = shows.read.forgotten;
  }

  named0 : then0.settings.name ≡ s.settings.name
  unfolding on_conn
  named0 = refl

  front0 : front_of_line then0 (with_unread [] k) ≡ Some e
  unfolding on_conn
  front0 = due.due.front

  cleared : (to : Conn) (then : State) → IsClearedTo s n k to then → Cleared number shelf x s n k e peer to then
  cleared to then (inl same) = record {
    is = record { begin = x; then = s; before = k; peer = peer; state = refl; named = refl; stands = inl (refl, refl); shows = shows; due = due };
    to_is = sym same.0;
    then_is = sym same.1;
    set = record { pipes = λ line. refl; reads = λ left. refl };
  }
  cleared to then (inr same) = record {
    is = record {
      begin = record x { peers = with_pipe n line0 x.peers };
      then = then0;
      before = with_unread [] k;
      peer = with_line line0 peer;
      state = refl;
      named = named0;
      stands = inr (refl, refl);
      shows = record { read = read0; may = set_may n (with_unread []) s (λ j. refl) (λ j one. record { closed = one.closed; few = one.few }) shows.may };
      due = record {
        due = record { on = record { there = found_set n (with_unread []) s k (λ j. refl) due.due.on.there; goes_on = due.due.on.goes_on }; front = front0; whole = due.due.whole };
        none = due.none;
        linked = pipe_found n line0 x.peers ∙ ap (λ (o : Option Peer). option_map (with_line line0) o) due.linked;
      };
    };
    to_is = sym same.0;
    then_is = sym same.1;
    set = record { pipes = λ line. pipe_twice n line0 line x.peers; reads = λ left. refl };
  }

-- ---- a head has a byte at least

front_some : (front : Front) (bytes : Bytes) (used : ℕ) (step : Step) (left : Reading) → IsFrontTold front bytes used step left → (step ≡ Head → 0 < used) × (step ≡ End → ⊥)
front_some (Final response rule rest) bytes used step left told = (λ is. told.some, λ is. absurd (end_head (sym is ∙ told.tells)))
  where
    end_head : End ≡ Head → ⊥
    end_head same = absurd (cc same)
front_some (Unfinished text) bytes used step left told = (λ is. absurd (head_idle (sym is ∙ told.tells)), λ is. absurd (end_idle (sym is ∙ told.tells)))
  where
    head_idle : Head ≡ Idle → ⊥
    head_idle same = absurd (cc same)

    end_idle : End ≡ Idle → ⊥
    end_idle same = absurd (cc same)
front_some NoResponse bytes used step left told = (λ is. absurd (head_bad (sym is ∙ told.tells)), λ is. absurd (end_bad (sym is ∙ told.tells)))
  where
    head_bad : Head ≡ Bad → ⊥
    head_bad same = absurd (cc same)

    end_bad : End ≡ Bad → ⊥
    end_bad same = absurd (cc same)

no_end : (asks : Option Bool) (text : Bytes) (b : ℕ) (bytes : Bytes) (used : ℕ) (left : Reading) → IsHeadFed asks text (b ∷ bytes) used End left → ⊥
no_end None text b bytes used left told = absurd (end_bad told.tells)
  where
    end_bad : End ≡ Bad → ⊥
    end_bad same = absurd (cc same)
no_end (Some head_request) text b bytes used left told = (front_some (front_of head_request (text ++ b ∷ bytes)) (b ∷ bytes) used End left told).1 refl

-- ---- by what the step brings

module _ (number : ℕ → ℕ) (shelf : KeptMap) (x next : Both) (s : State) (n : ℕ) (k : Conn) (e : Exchange) (peer : Peer) (b : ℕ) (bytes : Bytes) (behind : Option Remains) (shows : ShowsBoth number shelf x s) (due : HeadIsDue x s n k e peer) (amid : IsAmidHead s n k)
    (on : IsStepOn (going_on (find (is_number n) x.peers)) shelf n (remaining (b ∷ bytes) []) x next behind) where
  abbrev name : Bytes
  name = s.settings.name

  abbrev text : Bytes
  text = text_of k (b ∷ bytes)

  abbrev Result : Type 0
  Result = StopsThere number x next s n k (b ∷ bytes) behind ⊎ HeadIsGotThere number shelf x next s n k e (b ∷ bytes) behind

  from : ShowsSides number name (sides_of x) s
  from = sides_at number shelf x s shows

  own : ShowsConn s peer k
  own =
      let one : HasPeer s n x.peers k = linked s n x.peers s.conns k due.due.on.there from.steps.shows.conns in
      subst (λ (p : Peer). ShowsConn s p k) (some_is one.peer peer (sym one.there ∙ due.linked)) one.shows

  goes : going_on (find (is_number n) x.peers) ≡ Some peer
  goes = ap (λ (o : Option Peer). going_on o) due.linked ∙ ap (λ (c : Bool). cond c None (Some peer)) (own.is_closing ∙ due.due.on.goes_on)

  fewer : (rest : Bytes) → behind ≡ Some (remaining rest []) → length rest < length (b ∷ bytes)
  fewer rest is = by (subst (λ (o : Option Peer). IsStepOn o shelf n (remaining (b ∷ bytes) []) x next behind) goes on)
    where
      at : (used : ℕ) → 0 < used → rest ≡ drop used (b ∷ bytes) → length rest < length (b ∷ bytes)
      at used some same = omega (arith, some, ap (λ (bs : Bytes). length bs) same, length-drop used (b ∷ bytes))

      bytes_of : (one two : Remains) → Some one ≡ Some two → one.bytes ≡ two.bytes
      bytes_of one two same = ap (λ (r : Remains). r.bytes) (some_is one two same)

      by_step : (used : ℕ) (step : Step) (left : Reading) → IsFed (awaited peer.pipe.asks) (Before k.unread) (b ∷ bytes) used step left → used ≤ length (b ∷ bytes) → (step ≡ Head → 0 < used) → ((from to : ℕ) → step ≡ BodyStep from to → 0 < used) → behind ≡ left_behind used step (remaining (b ∷ bytes) []) → length rest < length (b ∷ bytes)
      by_step used Head left fed within head body leaves = at used (head refl) (bytes_of (remaining rest []) _ (sym is ∙ leaves))
      by_step used (BodyStep from to) left fed within head body leaves = at used (body from to refl) (bytes_of (remaining rest []) _ (sym is ∙ leaves))
      by_step used End left fed within head body leaves = absurd (no_end (awaited peer.pipe.asks) k.unread b bytes used left fed)
      by_step used Bad left fed within head body leaves = absurd (none_some (sym leaves ∙ is))
        where
          none_some : {r : Remains} → None ≡ Some r → ⊥
          none_some same = absurd (cc same)
      by_step used Idle left fed within head body leaves = absurd (none_some (sym leaves ∙ is))
        where
          none_some : {r : Remains} → None ≡ Some r → ⊥
          none_some same = absurd (cc same)

      by : IsStep shelf n peer (remaining (b ∷ bytes) []) x next behind → length rest < length (b ∷ bytes)
      by one =
          by_step one.told.0 one.told.1 one.feeds.left
          (subst (λ (r : Reading). IsFed (awaited peer.pipe.asks) r (b ∷ bytes) one.told.0 one.told.1 one.feeds.left) (before peer.pipe.reading k.unread k.answer (own.pipe due.due.on.goes_on).reading amid.none) one.feeds.fed)
          one.feeds.within (λ is_head. subst (λ (t : Step). IsUsed t (length (b ∷ bytes)) one.told.0) is_head one.feeds.uses)
          (λ from to is_body. let uses = subst (λ (t : Step). IsUsed t (length (b ∷ bytes)) one.told.0) is_body one.feeds.uses in omega (arith, uses.0, uses.1)) one.leaves

  bounded : IsBounded next.state.cache
  bounded = by (subst (λ (o : Option Peer). IsStepOn o shelf n (remaining (b ∷ bytes) []) x next behind) goes on)
    where
      by : IsStep shelf n peer (remaining (b ∷ bytes) []) x next behind → IsBounded next.state.cache
      by one = one.bounded

  stops : behind ≡ None → Result
  stops none = by (heads_got number shelf x next s n k e peer b bytes behind shows due amid on)
    where
      none_some : {r : Remains} → None ≡ Some r → ⊥
      none_some same = absurd (cc same)

      by : StopsThere number x next s n k (b ∷ bytes) behind ⊎ GoesOnBehind number shelf x next s n e (b ∷ bytes) behind → Result
      by (inl it) = inl it
      by (inr it) = absurd (none_some (sym none ∙ it.leaves))

  there_at : (it : HeadIsThere shelf x next s n k e peer text behind) (past : IsPassedTo (length (b ∷ bytes)) s n k (b ∷ bytes) text) → Cleared number shelf x s n k e peer past.before past.then → Result
  there_at it past clear =
      inr
      (record {
        there = clear.is;
        got = record {
          head = it.head;
          text = text;
          whole = it.whole;
          rule = it.rule;
          left = it.left;
          read = it.read;
          came = subst (λ (y : Both). HeadCame shelf n y next) both_same it.came;
          bounded = bounded;
          rest = drop it.head.length text;
          less = past.less;
          leaves = it.leaves;
          enough = past.enough it.head it.whole;
          fewer = fewer (drop it.head.length text) it.leaves;
          law =
              past.law
              ∙ ap₂ (λ (j : Conn) (t : State). got past.less n (head_piece_of j text t).rest (head_piece_of j text t).state) (sym clear.to_is) (sym clear.then_is)
              ∙ ap (λ (p : Piece). got past.less n p.rest p.state) (final_is clear.is.then clear.is.before e it.head clear.is.due.due.front text it.whole it.final);
          pieces = past.pieces;
          comes = λ later.
              past.comes later
              ∙ ap₂ (λ (j : Conn) (t : State). got later n (head_piece_of j text t).rest (head_piece_of j text t).state) (sym clear.to_is) (sym clear.then_is)
              ∙ ap (λ (p : Piece). got later n p.rest p.state) (final_is clear.is.then clear.is.before e it.head clear.is.due.due.front text it.whole it.final);
        };
      })
    where
      both_same : with_head n peer it.left x ≡ with_head n clear.is.peer it.left clear.is.begin
      both_same =
          ap₂ (λ (q : Turn) (ps : List Peer). let y : Both = record { state = q; peers = ps } in y) (sym clear.is.state)
          (sym (clear.set.pipes (record peer.pipe { reading = it.left })) ∙ ap (λ (line : Line). with_pipe n line clear.is.begin.peers) (sym (clear.set.reads it.left)))

  there : HeadIsThere shelf x next s n k e peer text behind → Result
  there it =
      let past : IsPassedTo (length (b ∷ bytes)) s n k (b ∷ bytes) text = interims s n k b bytes amid (λ more. not_both (sym it.whole ∙ more)) in
      there_at it past (cleared number shelf x s n k e peer shows due amid.none past.before past.then past.stands)
    where
      not_both : {head : Response} → Whole head ≡ More → ⊥
      not_both is = absurd (cc is)

  by : WaitsForMore number name x next s k text behind ⊎ (HeadFails number name x next s n k e text behind ⊎ HeadIsThere shelf x next s n k e peer text behind) → Result
  by (inl it) = stops it.leaves
  by (inr (inl it)) = stops it.leaves
  by (inr (inr it)) = there it

  got_there : Result
  got_there = by (head_steps number name shelf x next s n k e peer b bytes behind from due amid.none on)

pub heads_got_there : HeadsAreGotThere
heads_got_there number shelf x next s n k e peer b bytes behind shows due amid on = got_there number shelf x next s n k e peer b bytes behind shows due amid on
