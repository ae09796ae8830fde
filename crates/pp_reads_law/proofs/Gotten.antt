-- Where a head is awaited, one step of the pipe is what the law gets of the bytes that came.
use Rattle.std.proofs.Common.{◌≡◌, ◌⊎◌, inl, inr, refl, sym, subst, ap, ap₂, ◌∙◌, ℕ, zero, suc, Bool, true, false, ◌||◌, drop, find, length, List, [], ◌∷◌, Option, Some, None}
use Rattle.std.specs.Prelude.{option_map}
use Rattle.pp_cache_law.proofs.Finds.{find_passes}
use Rattle.pp_cache_law.proofs.Numbers.{some_is}
use Rattle.pp_turns_law.proofs.Peers.{HasPeer, linked}
use Rattle.pp_turns_law.specs.Sides.{ShowsSides}
use Rattle.pp_desk.specs.Closings.{Sides}
use Rattle.pp_endings_law.proofs.GoneShort.{found_set}
use Rattle.pp_endings_law.proofs.Pipes.{pipe_found, with_line}
use Rattle.pp_flow_law.proofs.Entries.{same_number}
use Rattle.pp_flow_law.specs.Tables.{none_leaves}
use Rattle.pp_head.specs.Read.{Whole, More}
use Rattle.pp_head.specs.Response.{Response}
use Rattle.pp_law.specs.Connections.{conn, front_of_line, is_conn, on_conn}
use Rattle.pp_law.specs.Lists.{Bytes}
use Rattle.pp_law.specs.Responses.{Piece, bad_head, got, head_piece_of, next_piece, with_unread}
use Rattle.pp_law.specs.State.{State, Answer, Conn, Exchange}
use Rattle.pp_origins.specs.Gots.{Both, HeadCame, IsStepOn, Remains, going_on, remaining, sides_of}
use Rattle.pp_origins.specs.Responses.{bad_response}
use Rattle.pp_peers.specs.Peers.{is_number, with_peer, with_pipe}
use Rattle.pp_peers.specs.declared.peers.Peer.{Peer}
use Rattle.pp_peers_law.specs.Peers.{ShowsReading, ShowsStaying}
use Rattle.pp_pipe.specs.Line.{Line}
use Rattle.pp_pipe.specs.Reading.{Reading, Before}
use Rattle.pp_state.specs.Ends.{parts}
use Rattle.pp_state.specs.declared.state.State.{State as Turn}
use Rattle.pp_states_law.proofs.Alone.{piped as pipe_is}
use Rattle.pp_states_law.proofs.GotOn.{gots}
use Rattle.pp_states_law.proofs.ReadOn.{readings}
use Rattle.pp_states_law.specs.Gots.{IsAmidHead}
use Rattle.pp_states_law.specs.States.{ShowsState}
use Rattle.pp_states_law.specs.Steps.{ShowsSteps, whole}
use Rattle.pp_store.specs.Kept.{KeptMap}
use Rattle.pp_text.specs.Bytes.{is_empty}
use Rattle.pp_reads_law.proofs.Amid.{pipe_twice, set_may}
use Rattle.pp_reads_law.proofs.Awaited.{final_is, head_steps}
use Rattle.pp_reads_law.proofs.BadOnes.{bad_closes, bad_heads}
use Rattle.pp_reads_law.proofs.Passing.{interims}
use Rattle.pp_reads_law.specs.Amid.{ShowsRead}
use Rattle.pp_reads_law.specs.Awaits.{HeadFails, HeadIsThere, WaitsForMore, text_of}
use Rattle.pp_reads_law.specs.Bads.{piped}
use Rattle.pp_reads_law.specs.Gots.{GoesOnBehind, HeadsAreGotAsTheLaws, StopsThere}
use Rattle.pp_reads_law.specs.Heads.{HeadIsDue, ShowsBoth, with_head}
use Rattle.pp_reads_law.specs.Interims.{IsClearedTo, IsPassedTo}

-- ---- nothing is got on a connection that is closing

pub closed_got : (m n : ℕ) (bytes : Bytes) (t : State) → ((j : Conn) → conn t n ≡ Some j → j.is_closing ≡ true) → got m n bytes t ≡ t
unfolding got
closed_got zero n bytes t closes = refl
closed_got (suc m) n bytes t closes = by (conn t n) refl
  where
    by : (o : Option Conn) → conn t n ≡ o → (elim o as (λ u. State) [ None ↦ t | Some j ↦ elim (j.is_closing || is_empty bytes) as (λ u. State) [ true ↦ t | false ↦ got m n (next_piece j bytes t).rest (next_piece j bytes t).state ] ]) ≡ t
    by None is = refl
    by (Some j) is = ap (λ (b : Bool). elim (b || is_empty bytes) as (λ u. State) [ true ↦ t | false ↦ got m n (next_piece j bytes t).rest (next_piece j bytes t).state ]) (closes j is)

closing_shown : (number : ℕ → ℕ) (name : Bytes) (z : Sides) (t : State) (n : ℕ) (p : Peer) → ShowsSides number name z t → find (is_number n) z.peers ≡ Some p → p.is_closing ≡ true → (j : Conn) → conn t n ≡ Some j → j.is_closing ≡ true
closing_shown number name z t n p shows there closes j is =
    let one : HasPeer t n z.peers j = linked t n z.peers t.conns j is shows.steps.shows.conns in
    sym one.shows.is_closing ∙ ap (λ (q : Peer). q.is_closing) (some_is one.peer p (sym one.there ∙ there)) ∙ closes

pub sides_at : (number : ℕ → ℕ) (shelf : KeptMap) (y : Both) (t : State) → ShowsBoth number shelf y t → ShowsSides number t.settings.name (sides_of y) t
sides_at number shelf y t shows = record { steps = subst (λ (own : Bytes). ShowsSteps number own none_leaves y.peers (parts y.state) t) shows.read.turn.name shows.read.turn.steps; may = shows.may }

-- ---- where nothing but what precedes it is dropped, all stands as before

record IsCleared (number : ℕ → ℕ) (shelf : KeptMap) (x : Both) (s : State) (n : ℕ) (e : Exchange) (peer : Peer) (before : Conn) (then : State) : Type 0 where
  begin : Both
  own : Peer
  state : begin.state ≡ x.state
  named : then.settings.name ≡ s.settings.name
  shows : ShowsBoth number shelf begin then
  due : HeadIsDue begin then n before e own
  pipes : (line : Line) → with_pipe n line begin.peers ≡ with_pipe n line x.peers
  reads : (left : Reading) → record own.pipe { reading = left } ≡ record peer.pipe { reading = left }

module _ (number : ℕ → ℕ) (shelf : KeptMap) (x : Both) (s : State) (n : ℕ) (k : Conn) (e : Exchange) (peer : Peer) (shows : ShowsBoth number shelf x s) (due : HeadIsDue x s n k e peer) (none : k.answer ≡ None) where
  kn : k.number ≡ n
  kn = same_number k.number n (find_passes (is_conn n) s.conns k due.due.on.there)

  abbrev line0 : Line
  line0 = record peer.pipe { reading = Before [] }

  abbrev then0 : State
  then0 = on_conn n (with_unread []) s

  state0 : ShowsState number x.state.name.items [] none_leaves (whole (parts x.state) (with_pipe n line0 x.peers)) then0
  state0 =
      subst (λ (ps : List Peer). ShowsState number x.state.name.items [] none_leaves (whole (parts x.state) ps) then0) (sym (pipe_is n line0 x.peers peer due.linked))
      (subst (λ (m : ℕ). ShowsState number x.state.name.items [] none_leaves (whole (parts x.state) (with_peer m (record peer { pipe = line0 }) x.peers)) (on_conn m (with_unread []) s)) kn
      (readings number x.state.name.items [] none_leaves (whole (parts x.state) x.peers) s shows.read.turn.steps.shows peer k (Before []) peer.stays (λ j. []) (λ j. j.answer) shows.may.apart
      (record { linked = ap (λ (m : ℕ). find (is_number m) x.peers) kn ∙ due.linked; there = ap (λ (m : ℕ). conn s m) kn ∙ due.due.on.there; goes_on = due.due.on.goes_on })
      (subst (λ (o : Option Answer). ShowsReading (Before []) [] o) (sym none) refl)
      (subst (λ (o : Option Answer). ShowsStaying peer.stays o) (sym none) tt)))

  read0 : ShowsRead number none_leaves (with_pipe n line0 x.peers) shelf x.state then0
  unfolding on_conn
  read0 = record {
    turn = record {
      steps = record { shows = state0; order = shows.read.turn.steps.order; told = shows.read.turn.steps.told; refused = shows.read.turn.steps.refused };
      name = shows.read.turn.name;
      shares = shows.read.turn.shares;
      clock = shows.read.turn.clock;
      ticked = shows.read.turn.ticked;
      stopped = shows.read.turn.stopped;
      bounded = shows.read.turn.bounded;
    };
    disk = shows.read.disk;
    may = record { few = shows.read.may.few; busy = shows.read.may.busy; given = shows.read.may.given };
    forgotten = shows.read.forgotten;
  }

  named0 : then0.settings.name ≡ s.settings.name
  unfolding on_conn
  named0 = refl

  front0 : front_of_line then0 (with_unread [] k) ≡ Some e
  unfolding on_conn
  front0 = due.due.front

  cleared : (before : Conn) (then : State) → IsClearedTo s n k before then → IsCleared number shelf x s n e peer before then
  cleared before then (inl same) =
      subst (λ (j : Conn). IsCleared number shelf x s n e peer j then) (sym same.0)
      (subst (λ (t : State). IsCleared number shelf x s n e peer k t) (sym same.1) (record { begin = x; own = peer; state = refl; named = refl; shows = shows; due = due; pipes = λ line. refl; reads = λ left. refl }))
  cleared before then (inr same) =
      subst (λ (j : Conn). IsCleared number shelf x s n e peer j then) (sym same.0)
      (subst (λ (t : State). IsCleared number shelf x s n e peer (with_unread [] k) t) (sym same.1) (record {
        begin = record x { peers = with_pipe n line0 x.peers };
        own = with_line line0 peer;
        state = refl;
        named = named0;
        shows = record { read = read0; may = set_may n (with_unread []) s (λ j. refl) (λ j one. record { closed = one.closed; few = one.few }) shows.may };
        due = record {
          due = record { on = record { there = found_set n (with_unread []) s k (λ j. refl) due.due.on.there; goes_on = due.due.on.goes_on }; front = front0; whole = due.due.whole };
          none = due.none;
          linked = pipe_found n line0 x.peers ∙ ap (λ (o : Option Peer). option_map (with_line line0) o) due.linked;
        };
        pipes = λ line. pipe_twice n line0 line x.peers;
        reads = λ left. refl;
      }))

-- ---- by what the step brings

module _ (number : ℕ → ℕ) (shelf : KeptMap) (x next : Both) (s : State) (n : ℕ) (k : Conn) (e : Exchange) (peer : Peer) (b : ℕ) (bytes : Bytes) (behind : Option Remains) (shows : ShowsBoth number shelf x s) (due : HeadIsDue x s n k e peer) (amid : IsAmidHead s n k) where
  abbrev name : Bytes
  name = s.settings.name

  abbrev text : Bytes
  text = text_of k (b ∷ bytes)

  abbrev Leads : Type 0
  Leads = StopsThere number x next s n k (b ∷ bytes) behind ⊎ GoesOnBehind number shelf x next s n e (b ∷ bytes) behind

  waits : WaitsForMore number name x next s k text behind → Leads
  waits it =
      inl
      (record {
        leaves = it.leaves;
        way = inl (record { same = it.same; law = inr (text, gots s n k b bytes amid it.more) });
        shows =
            subst (λ (t : State). ShowsSides number name (sides_of next) t)
            (ap (λ (m : ℕ). on_conn m (with_unread text) s) (same_number k.number n (find_passes (is_conn n) s.conns k due.due.on.there)) ∙ sym (gots s n k b bytes amid it.more)) it.shows;
      })

  fails_at : (it : HeadFails number name x next s n k e text behind) (past : IsPassedTo (length (b ∷ bytes)) s n k (b ∷ bytes) text) → IsCleared number shelf x s n e peer past.before past.then → Leads
  fails_at it past clear =
      let from : ShowsSides number past.then.settings.name (sides_of clear.begin) past.then = sides_at number shelf clear.begin past.then clear.shows in
      let bad : ShowsSides number past.then.settings.name (bad_response n (piped n it.line (sides_of clear.begin))) (bad_head past.before past.then) =
      bad_heads number past.then.settings.name (sides_of clear.begin) past.then from n past.before e it.line clear.due.due clear.due.none in
      let closing = bad_closes number past.then.settings.name (sides_of clear.begin) past.then from n past.before it.line clear.due.due.on e clear.due.due.front clear.due.due.whole in
      let same : sides_of next ≡ bad_response n (piped n it.line (sides_of clear.begin)) =
      it.is ∙ ap₂ (λ (q : Turn) (ps : List Peer). bad_response n (let z : Sides = record { parts = parts q; peers = ps } in z)) (sym clear.state) (sym (clear.pipes it.line)) in
      let law : got (length (b ∷ bytes)) n (b ∷ bytes) s ≡ bad_head past.before past.then =
      past.law
      ∙ ap (λ (t : State). got past.less n (head_piece_of past.before text past.then).rest t) (it.law past.before past.then clear.due.due.front)
      ∙ closed_got past.less n (head_piece_of past.before text past.then).rest (bad_head past.before past.then)
      (closing_shown number past.then.settings.name (bad_response n (piped n it.line (sides_of clear.begin))) (bad_head past.before past.then) n closing.0 bad closing.1 closing.2) in
      inl
      (record {
        leaves = it.leaves;
        way =
            inr
            (record {
              quiet = amid.none;
              line = it.line;
              makes = record { is = it.is; rest = it.rest };
              law = inl (record { before = past.before; then = past.then; exchange = e; stands = past.stands; due = clear.due.due; law = law });
            });
        shows =
            subst (λ (own : Bytes). ShowsSides number own (sides_of next) (got (length (b ∷ bytes)) n (b ∷ bytes) s)) clear.named
            (subst (λ (z : Sides). ShowsSides number past.then.settings.name z (got (length (b ∷ bytes)) n (b ∷ bytes) s)) (sym same)
            (subst (λ (t : State). ShowsSides number past.then.settings.name (bad_response n (piped n it.line (sides_of clear.begin))) t) (sym law) bad));
      })

  fails : HeadFails number name x next s n k e text behind → Leads
  fails it =
      let past : IsPassedTo (length (b ∷ bytes)) s n k (b ∷ bytes) text = interims s n k b bytes amid it.some in
      fails_at it past (cleared number shelf x s n k e peer shows due amid.none past.before past.then past.stands)

  there_at : (it : HeadIsThere shelf x next s n k e peer text behind) (past : IsPassedTo (length (b ∷ bytes)) s n k (b ∷ bytes) text) → IsCleared number shelf x s n e peer past.before past.then → Leads
  there_at it past clear =
      inr
      (record {
        begin = clear.begin;
        then = past.then;
        before = past.before;
        peer = clear.own;
        state = clear.state;
        shows = clear.shows;
        due = clear.due;
        head = it.head;
        rule = it.rule;
        left = it.left;
        read = it.read;
        came = subst (λ (y : Both). HeadCame shelf n y next) both_same it.came;
        rest = drop it.head.length text;
        less = past.less;
        leaves = it.leaves;
        enough = past.enough it.head it.whole;
        law = past.law ∙ ap (λ (p : Piece). got past.less n p.rest p.state) (final_is past.then past.before e it.head clear.due.due.front text it.whole it.final);
      })
    where
      both_same : with_head n peer it.left x ≡ with_head n clear.own it.left clear.begin
      both_same =
          ap₂ (λ (q : Turn) (ps : List Peer). let y : Both = record { state = q; peers = ps } in y) (sym clear.state)
          (sym (clear.pipes (record peer.pipe { reading = it.left })) ∙ ap (λ (line : Line). with_pipe n line clear.begin.peers) (sym (clear.reads it.left)))

  there : HeadIsThere shelf x next s n k e peer text behind → Leads
  there it =
      let past : IsPassedTo (length (b ∷ bytes)) s n k (b ∷ bytes) text = interims s n k b bytes amid (λ more. not_both (sym it.whole ∙ more)) in
      there_at it past (cleared number shelf x s n k e peer shows due amid.none past.before past.then past.stands)
    where
      not_both : {head : Response} → Whole head ≡ More → ⊥
      not_both is = absurd (cc is)

  by : WaitsForMore number name x next s k text behind ⊎ (HeadFails number name x next s n k e text behind ⊎ HeadIsThere shelf x next s n k e peer text behind) → Leads
  by (inl it) = waits it
  by (inr (inl it)) = fails it
  by (inr (inr it)) = there it

  got_is : IsStepOn (going_on (find (is_number n) x.peers)) shelf n (remaining (b ∷ bytes) []) x next behind → Leads
  got_is on = by (head_steps number name shelf x next s n k e peer b bytes behind (sides_at number shelf x s shows) due amid.none on)

pub heads_got : HeadsAreGotAsTheLaws
heads_got number shelf x next s n k e peer b bytes behind shows due amid on = got_is number shelf x next s n k e peer b bytes behind shows due amid on
