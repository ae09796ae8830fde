-- A read that goes on within a body: each step of its pipe, and all of them up to the end of the body or of the read.
use Rattle.std.proofs.Common.{◌≡◌, ◌⊎◌, inl, inr, ◌≤◌, ◌<◌, refl, sym, subst, ap, ap₂, ◌∙◌, ℕ, zero, suc, ◌+◌, Bool, true, false, cond, drop, drop_at, find, length, List, [], ◌∷◌, ◌++◌, Option, Some, None, arith}
use Rattle.std.proofs.lemmas.List.{length-drop}
use Rattle.std.specs.Prelude.{option_map, slice_range}
use Rattle.pp_cache_law.proofs.Finds.{find_passes}
use Rattle.pp_cache_law.proofs.Numbers.{some_is}
use Rattle.pp_turns_law.proofs.Peers.{HasPeer, linked}
use Rattle.pp_turns_law.specs.Sides.{MayClose, ShowsSides}
use Rattle.pp_desk.specs.Closings.{Sides}
use Rattle.pp_endings_law.proofs.Pipes.{pipe_found, with_line}
use Rattle.pp_endings_law.specs.Gone.{IsAnswering}
use Rattle.pp_flow_law.proofs.Entries.{same_number}
use Rattle.pp_flow_law.specs.Tables.{none_leaves}
use Rattle.pp_framing.specs.Body.{Body, Bad as NoBody, Done, Going}
use Rattle.pp_framing.specs.Rules.{body_of}
use Rattle.pp_law.specs.Connections.{close_conn, conn, exchange, front_of_line, is_conn, is_outstanding, on_conn}
use Rattle.pp_law.specs.Lists.{Bytes}
use Rattle.pp_law.specs.Responses.{Piece, bad_response as law_bad_response, body_piece, body_piece_of, deliver, finish, payload_of}
use Rattle.pp_law.specs.Stages.{is_headed}
use Rattle.pp_law.specs.State.{State, Answer, Conn, Exchange}
use Rattle.pp_origins.specs.Gots.{Both, DataCame, GotFrom, IsStep, IsStepOn, Remains, TakesStep, going_on, left_behind, remaining, sides_of}
use Rattle.pp_origins.specs.Responses.{bad_response, response_whole}
use Rattle.pp_peers.specs.Peers.{is_number, with_peer, with_pipe}
use Rattle.pp_peers.specs.declared.peers.Peer.{Peer}
use Rattle.pp_peers_law.proofs.Bodies.{bodies}
use Rattle.pp_peers_law.specs.Comes.{IsBodyRead, ShowsAmid}
use Rattle.pp_peers_law.specs.Peers.{ShowsReading}
use Rattle.pp_pipe.specs.Asks.{awaited}
use Rattle.pp_pipe.specs.Front.{fate_of}
use Rattle.pp_pipe.specs.Line.{Line, answered, stepped}
use Rattle.pp_pipe.specs.Reading.{Reading, Before, Within, Closed, Broken, fate_in}
use Rattle.pp_pipe.specs.declared.fate.Fate.{Fate}
use Rattle.pp_pipe.specs.declared.step.Step.{Step}
use Rattle.pp_pipe.specs.declared.step.Step.TheVariants.{Head, Body as BodyStep, End, Bad, Idle}
use Rattle.pp_state.specs.Ends.{parts}
use Rattle.pp_state.specs.declared.state.State.{State as Turn}
use Rattle.pp_states_law.proofs.Alone.{piped as pipe_is}
use Rattle.pp_states_law.proofs.ReadOn.{bodies_go_on}
use Rattle.pp_states_law.specs.Readings.{with_raw}
use Rattle.pp_states_law.specs.States.{ShowsState}
use Rattle.pp_states_law.proofs.Told.{conn_next, told_next}
use Rattle.pp_states_law.specs.Steps.{ShowsSteps, whole}
use Rattle.pp_store.specs.Kept.{KeptMap}
use Rattle.pp_reads_law.proofs.Amid.{moved_finish, moved_headed, moved_same, moved_whole, pipe_twice, set_may}
use Rattle.pp_reads_law.proofs.BadOnes.{bad_bodies}
use Rattle.pp_reads_law.proofs.Delivers.{data_come}
use Rattle.pp_reads_law.proofs.Fronts.{IsFront, is_front}
use Rattle.pp_reads_law.proofs.Going.{conns_are, delivered_may, known_then, moved, once_then}
use Rattle.pp_reads_law.proofs.WholeOnes.{wholes}
use Rattle.pp_reads_law.specs.Bads.{piped}
use Rattle.pp_reads_law.specs.Data.{MayGo}
use Rattle.pp_reads_law.specs.Pieces.{BodiesAreReadAsTheLaws, GoesOnAmid, IsAmidBody, IsWithinBody, LeavesBytes, PieceIsOver, PieceIsRead, StepsAmidAsTheLaws, data_in}
use Rattle.pp_reads_law.specs.Wholes.{IsAnsweredOn, line_behind}

-- ---- bytes

fewer_left : (n : ℕ) (xs : Bytes) → 1 ≤ n → n ≤ length xs → length (drop n xs) < length xs
fewer_left n xs some within = omega (arith, length-drop n xs, some, within)

-- ---- the pipe amid a body

fate_amid : (reading : Reading) (a : Answer) (bytes left came : Bytes) → ShowsAmid reading a bytes left came → fate_in reading ≡ fate_of a.head
fate_amid (Before text) a bytes left came amid = absurd amid
fate_amid (Within response place) a bytes left came amid = ap fate_of amid.head
fate_amid Closed a bytes left came amid = absurd amid
fate_amid Broken a bytes left came amid = absurd amid

module _ (number : ℕ → ℕ) (name : Bytes) (x : Both) (s : State) (n : ℕ) (k : Conn) (a : Answer) (peer : Peer) (e : Exchange) (bytes : Bytes) (shows : ShowsSides number name (sides_of x) s) (it : IsWithinBody x s n k a peer e) where
  abbrev pub at : ℕ
  at = length (payload_of a)

  abbrev first : IsFront s k e
  first = is_front s k e it.front

  kn : k.number ≡ n
  kn = same_number k.number n (find_passes (is_conn n) s.conns k it.on.may.there)

  own_open : peer.is_closing ≡ false
  own_open =
      let own : HasPeer s n x.peers k = linked s n x.peers s.conns k it.on.may.there shows.steps.shows.conns in
      ap (λ (p : Peer). p.is_closing) (some_is peer own.peer (sym it.on.linked ∙ own.there)) ∙ own.shows.is_closing ∙ it.on.may.goes_on

  -- ---- of the law, by what the body is with these bytes

  abbrev pub then_by : Bytes → State
  then_by came = deliver e a at came s

  abbrev pub piece_by : Body → Piece
  piece_by body =
      elim body.outcome as (λ p. Piece) [
        | Going ↦ record { state = on_conn k.number (λ i. record i { answer = Some (record a { raw = a.raw ++ bytes }) }) (then_by (drop at body.payload)); rest = [] }
        | NoBody ↦ record { state = law_bad_response k (then_by (drop at body.payload)); rest = [] }
        | Done rest ↦ record { state = finish k e a (then_by (drop at body.payload)); rest = rest }
      ]

  piece_is : body_piece k a bytes s ≡ piece_by (body_of a.rule (a.raw ++ bytes))
  piece_is = ap (λ (o : Option Exchange). elim o as (λ p. Piece) [ None ↦ record { state = close_conn false k s; rest = [] } | Some d ↦ body_piece_of k a d bytes s ]) it.front

  -- ---- data came

  module _ (came : Bytes) (between : Turn) (is_data : data_in a bytes ≡ came) (may : MayGo x.state s e (data_in a bytes)) (delivers : DataCame n came x.state between) where
    abbrev t : State
    t = then_by came

    abbrev later : Exchange
    later = moved e a at came s

    abbrev there_sides : Sides
    there_sides = record { parts = parts between; peers = x.peers }

    there_steps : ShowsSteps number name none_leaves x.peers (parts between) t
    there_steps =
        data_come number name x.peers x.state between s n k e a at came shows.steps (record { there = it.on.may.there; goes_on = it.on.may.goes_on }) it.front (subst (λ (bs : Bytes). MayGo x.state s e bs) is_data may) delivers

    there_may : MayClose t
    there_may = delivered_may e a at came s shows.may

    there_shows : ShowsSides number name there_sides t
    there_shows = record { steps = there_steps; may = there_may }

    conn_then : conn t n ≡ Some k
    conn_then = ap (λ (ks : List Conn). find (is_conn n) ks) (conns_are e a at came s) ∙ it.on.may.there

    number_later : later.number ≡ e.number
    number_later = moved_same (length came) e

    known_later : exchange t later.number ≡ Some later
    known_later = ap (λ (m : ℕ). exchange t m) number_later ∙ known_then e a at came s first.known

    line_later : k.line ≡ later.number ∷ first.others
    line_later = first.line ∙ ap (λ (m : ℕ). m ∷ first.others) (sym number_later)

    front_then : front_of_line t k ≡ Some later
    front_then = ap (λ (ns : List ℕ). elim ns as (λ o. Option Exchange) [ [] ↦ None | m ∷ rest ↦ exchange t m ]) line_later ∙ known_later

    whole_first : is_outstanding e ≡ true
    whole_first =
        let one : IsAnswering s k = it.on.may.answers a it.on.answer in
        ap (λ (d : Exchange). is_outstanding d) (some_is e one.first (sym it.front ∙ ap (λ (ns : List ℕ). elim ns as (λ o. Option Exchange) [ [] ↦ None | m ∷ rest ↦ exchange s m ]) one.line ∙ one.known)) ∙ one.whole

    whole_later : is_outstanding later ≡ true
    whole_later = moved_whole (length came) e ∙ whole_first

    headed_later : is_headed later ≡ true
    headed_later = moved_headed (length came) e it.headed

    answered_then : IsAnsweredOn there_sides t n k a peer
    answered_then = record {
      may = record {
        there = conn_then;
        goes_on = it.on.may.goes_on;
        answers = λ b is. record { first = later; others = first.others; line = line_later; known = known_later; whole = whole_later };
        once = λ m. once_then e a at came s m (it.on.may.once m);
      };
      answer = it.on.answer;
      linked = it.on.linked;
      pipelines = it.on.pipelines;
    }

    ends_shown : ShowsSides number name (response_whole n (piped n (line_behind a peer) there_sides)) (finish k e a t)
    ends_shown =
        subst (λ (u : State). ShowsSides number name (response_whole n (piped n (line_behind a peer) there_sides)) u) (moved_finish k (length came) e a t)
        (wholes number name there_sides t there_shows n k a peer later answered_then front_then)

    bad_shown : (line : Line) → ShowsSides number name (bad_response n (piped n line there_sides)) (law_bad_response k t)
    bad_shown line = bad_bodies number name there_sides t there_shows n k later line (record { on = record { there = conn_then; goes_on = it.on.may.goes_on }; front = front_then; whole = whole_later }) headed_later

    -- ---- the body goes on

    abbrev goes_on_law : State
    goes_on_law = on_conn k.number (with_raw a bytes) t

    goes_on_shown : (left : Reading) → ShowsReading left [] (Some (record a { raw = a.raw ++ bytes })) → ShowsSides number name (piped n (record peer.pipe { reading = left }) there_sides) goes_on_law
    goes_on_shown left reads = record {
      steps = record {
        shows =
            subst (λ (ps : List Peer). ShowsState number name [] none_leaves (whole (parts between) ps) goes_on_law) (sym peers_same)
            (bodies_go_on number name [] none_leaves (whole (parts between) x.peers) t there_steps.shows peer k a bytes left there_may.apart
            (record { linked = ap (λ (m : ℕ). find (is_number m) x.peers) kn ∙ it.on.linked; there = ap (λ (m : ℕ). conn t m) kn ∙ conn_then; goes_on = it.on.may.goes_on }) it.on.answer reads);
        order = there_steps.order;
        told = told_next number between.cache t.next_instance goes_on_law.next_instance between.flow (conn_next k.number (with_raw a bytes) t) there_steps.told;
        refused = there_steps.refused;
      };
      may = set_may k.number (with_raw a bytes) t (λ j. refl) (λ j one. record { closed = one.closed; few = one.few }) there_may;
    }
      where
        peers_same : with_pipe n (record peer.pipe { reading = left }) x.peers ≡ with_peer k.number (record peer { pipe = record peer.pipe { reading = left } }) x.peers
        peers_same = pipe_is n (record peer.pipe { reading = left }) x.peers peer it.on.linked ∙ ap (λ (m : ℕ). with_peer m (record peer { pipe = record peer.pipe { reading = left } }) x.peers) (sym kn)

  -- ---- one step

  module _ (shelf : KeptMap) (z next : Both) (here : Remains) (behind : Option Remains) (may : MayGo x.state s e (data_in a bytes)) (amid : IsAmidBody x z n peer a bytes here) where
    abbrev pub line : Line
    line = record peer.pipe { reading = amid.reading }

    abbrev pub here_peer : Peer
    here_peer = with_line line peer

    peer_here : find (is_number n) z.peers ≡ Some here_peer
    peer_here = ap (λ (ps : List Peer). find (is_number n) ps) amid.peers ∙ pipe_found n line x.peers ∙ ap (λ (o : Option Peer). option_map (with_line line) o) it.on.linked

    pub goes : going_on (find (is_number n) z.peers) ≡ Some here_peer
    goes = ap (λ (o : Option Peer). going_on o) peer_here ∙ ap (λ (b : Bool). cond b None (Some here_peer)) own_open

    pub data_is : (body : Body) → body_of a.rule (a.raw ++ bytes) ≡ body → body.payload ≡ payload_of a ++ here.came → data_in a bytes ≡ here.came
    data_is body is payload = ap (λ (b : Body). drop at b.payload) is ∙ ap (λ (bs : Bytes). drop at bs) payload ∙ drop_at (payload_of a) here.came (length (payload_of a)) refl

    abbrev Result : Type 0
    Result = GoesOnAmid x next n peer a bytes here behind ⊎ PieceIsOver number name next s k a bytes behind

    pub piece_with : (body : Body) → body_of a.rule (a.raw ++ bytes) ≡ body → body_piece k a bytes s ≡ piece_by body
    piece_with body is = piece_is ∙ ap piece_by is

    over : (piece : Piece) → body_piece k a bytes s ≡ piece → ShowsSides number name (sides_of next) piece.state → LeavesBytes behind piece.rest → Result
    over piece is shown leaves = inr (record { shows = subst (λ (p : Piece). ShowsSides number name (sides_of next) p.state) (sym is) shown; leaves = subst (λ (p : Piece). LeavesBytes behind p.rest) (sym is) leaves })

    fed_is : (step : Step) (left : Reading) (fed : List Peer) → fed ≡ with_pipe n (stepped step left line) z.peers → fed ≡ with_pipe n (stepped step left line) x.peers
    fed_is step left fed is = is ∙ ap (λ (ps : List Peer). with_pipe n (stepped step left line) ps) amid.peers ∙ pipe_twice n line (stepped step left line) x.peers

    pub came_at : (came : Bytes) (q : Turn) → DataCame n came z.state q → DataCame n came x.state q
    came_at came q it = subst (λ (p : Turn). DataCame n came p q) amid.state it

    by_step : (used : ℕ) (step : Step) (left : Reading) (fed : List Peer) → used ≤ length here.bytes → IsBodyRead a bytes here.bytes here.came used step left → fed ≡ with_pipe n (stepped step left line) z.peers
        → TakesStep step shelf n here.came (record z { peers = fed }) next → behind ≡ left_behind used step here → Result
    by_step used Head left fed within read is takes leaves = absurd read
    by_step used (BodyStep from to) left fed within read is takes leaves =
        inl
        (record {
          later = remaining (drop used here.bytes) (here.came ++ slice_range here.bytes from to);
          leaves = leaves;
          fewer = fewer_left used here.bytes (omega (arith, read.some, read.within)) within;
          amid = record {
            reading = left;
            shows = read.shows;
            state = ap (λ (y : Both). y.state) takes ∙ amid.state;
            peers = ap (λ (y : Both). y.peers) takes ∙ fed_is (BodyStep from to) left fed is;
          };
        })
    by_step used End left fed within read is takes leaves =
        let body : Body = record { payload = payload_of a ++ here.came; outcome = Done (drop used here.bytes) } in
        let same : data_in a bytes ≡ here.came = data_is body read.body refl in
        over (record { state = finish k e a (then_by here.came); rest = drop used here.bytes })
        (piece_with body read.body ∙ ap (λ (bs : Bytes). let p : Piece = record { state = finish k e a (then_by bs); rest = drop used here.bytes } in p) (drop_at (payload_of a) here.came (length (payload_of a)) refl))
        (subst (λ (y : Sides). ShowsSides number name y (finish k e a (then_by here.came)))
        (sym (takes.makes.is ∙ ap (λ (ps : List Peer). response_whole n (let y : Sides = record { parts = parts takes.between; peers = ps } in y)) (fed_is End left fed is ∙ line_same)))
        (ends_shown here.came takes.between same may (came_at here.came takes.between takes.delivers)))
        (left_same (drop used here.bytes) leaves)
      where
        line_same : with_pipe n (stepped End left line) x.peers ≡ with_pipe n (line_behind a peer) x.peers
        line_same =
            ap₂ (λ (fate : Fate) (r : Reading). with_pipe n (record (answered fate line) { reading = r }) x.peers) (fate_amid amid.reading a bytes here.bytes here.came amid.shows) read.leaves

        left_same : (rest : Bytes) → behind ≡ Some (remaining rest []) → LeavesBytes behind rest
        left_same rest is = subst (λ (o : Option Remains). LeavesBytes o rest) (sym is) refl
    by_step used Bad left fed within read is takes leaves =
        let body : Body = record { payload = payload_of a ++ here.came; outcome = NoBody } in
        let same : data_in a bytes ≡ here.came = data_is body read.body refl in
        over (record { state = law_bad_response k (then_by here.came); rest = [] })
        (piece_with body read.body ∙ ap (λ (bs : Bytes). let p : Piece = record { state = law_bad_response k (then_by bs); rest = [] } in p) (drop_at (payload_of a) here.came (length (payload_of a)) refl))
        (subst (λ (y : Sides). ShowsSides number name y (law_bad_response k (then_by here.came)))
        (sym (takes.makes.is ∙ ap (λ (ps : List Peer). bad_response n (let y : Sides = record { parts = parts takes.between; peers = ps } in y)) (fed_is Bad left fed is)))
        (bad_shown here.came takes.between same may (came_at here.came takes.between takes.delivers) (stepped Bad left line)))
        (subst (λ (o : Option Remains). LeavesBytes o []) (sym leaves) refl)
    by_step used Idle left fed within read is takes leaves =
        let body : Body = record { payload = payload_of a ++ here.came; outcome = Going } in
        let same : data_in a bytes ≡ here.came = data_is body read.body refl in
        over (record { state = on_conn k.number (with_raw a bytes) (then_by here.came); rest = [] })
        (piece_with body read.body ∙ ap (λ (bs : Bytes). let p : Piece = record { state = on_conn k.number (with_raw a bytes) (then_by bs); rest = [] } in p) (drop_at (payload_of a) here.came (length (payload_of a)) refl))
        (subst (λ (ps : List Peer). ShowsSides number name (record { parts = parts next.state; peers = ps }) (on_conn k.number (with_raw a bytes) (then_by here.came))) (sym (takes.1 ∙ fed_is Idle left fed is))
        (goes_on_shown here.came next.state same may (came_at here.came next.state takes.0) left read.shows))
        (subst (λ (o : Option Remains). LeavesBytes o []) (sym leaves) refl)

    step_is : IsStepOn (going_on (find (is_number n) z.peers)) shelf n here z next behind → Result
    step_is on = by (subst (λ (o : Option Peer). IsStepOn o shelf n here z next behind) goes on)
      where
        by : IsStep shelf n here_peer here z next behind → Result
        by one =
            by_step one.told.0 one.told.1 one.feeds.left one.fed one.feeds.within
            (bodies a amid.reading bytes here.bytes here.came (awaited here_peer.pipe.asks) one.told.0 one.told.1 one.feeds.left amid.shows one.feeds.fed) one.feeds.leaves one.takes one.leaves

pub steps : StepsAmidAsTheLaws
steps number name shelf x z next s n k a peer e bytes here behind shows it may amid on = step_is number name x s n k a peer e bytes shows it shelf z next here behind may amid on

-- ---- step by step

one_fewer : (more m l : ℕ) → m < suc more → l < m → l < more
one_fewer more m l less fewer = omega (arith, less, fewer)

enough_still : (more m l rest : ℕ) → l < m → more ≤ rest + (l + 1) → suc more ≤ rest + (m + 1)
enough_still more m l rest fewer enough = omega (arith, fewer, enough)

at_once : (more m : ℕ) → suc more ≤ more + (m + 1)
at_once more m = omega arith

pub read : BodiesAreReadAsTheLaws
unfolding GotFrom
read number name shelf zero x z y s n k a peer e bytes here shows it may amid fuel got = absurd (omega (arith, fuel))
read number name shelf (suc more) x z y s n k a peer e bytes here shows it may amid fuel got =
    by (steps number name shelf x z got.0 s n k a peer e bytes here got.1 shows it may amid got.2)
    (λ later leaves fewer on. read number name shelf more x got.0 y s n k a peer e bytes later shows it may on (one_fewer more (length here.bytes) (length later.bytes) fuel fewer) (subst (λ (o : Option Remains). GotFrom more shelf n o got.0 y) leaves got.3))
  where
    by : GoesOnAmid x got.0 n peer a bytes here got.1 ⊎ PieceIsOver number name got.0 s k a bytes got.1
        → ((later : Remains) → got.1 ≡ Some later → length later.bytes < length here.bytes → IsAmidBody x got.0 n peer a bytes later → PieceIsRead number name shelf more y s n k a bytes later) → PieceIsRead number name shelf (suc more) y s n k a bytes here
    by (inl on) rest =
        let one : PieceIsRead number name shelf more y s n k a bytes on.later = rest on.later on.leaves on.fewer on.amid in
        record { next = one.next; behind = one.behind; more = one.more; enough = enough_still more (length here.bytes) (length on.later.bytes) one.more on.fewer one.enough; over = one.over; then = one.then }
    by (inr over) rest = record { next = got.0; behind = got.1; more = more; enough = at_once more (length here.bytes); over = over; then = got.3 }
