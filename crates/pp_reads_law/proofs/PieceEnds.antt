-- How a piece of a body is over: data came, and behind them nothing, its end, or what is no body; in the program as in the law.
use Rattle.std.proofs.Common.{◌≡◌, ◌⊎◌, inl, inr, ◌≤◌, ◌<◌, refl, subst, ap, ◌∙◌, ℕ, ◌-◌, drop, drop_at, find, length, List, [], ◌++◌, Option, arith, length-append, length-take, length-drop}
use Rattle.std.specs.Prelude.{slice_range}
use Rattle.pp_framing.specs.Body.{Body, Bad as NoBody, Done, Going}
use Rattle.pp_law.specs.Connections.{on_conn}
use Rattle.pp_law.specs.Lists.{Bytes}
use Rattle.pp_law.specs.Responses.{Piece, bad_response as law_bad_response, body_piece, deliver, finish, payload_of}
use Rattle.pp_law.specs.State.{State, Answer, Conn, Exchange}
use Rattle.pp_origins.specs.Gots.{Both, DataCame, IsStep, IsStepOn, Makes, Remains, TakesStep, going_on, left_behind, sides_of}
use Rattle.pp_origins.specs.Responses.{bad_response, response_whole}
use Rattle.pp_desk.specs.Closings.{Sides}
use Rattle.pp_peers.specs.Peers.{is_number}
use Rattle.pp_peers.specs.declared.peers.Peer.{Peer}
use Rattle.pp_peers_law.proofs.Bodies.{bodies}
use Rattle.pp_peers_law.specs.Comes.{IsBodyRead}
use Rattle.pp_pipe.specs.Asks.{awaited}
use Rattle.pp_pipe.specs.Reading.{Reading}
use Rattle.pp_pipe.specs.declared.step.Step.{Step}
use Rattle.pp_pipe.specs.declared.step.Step.TheVariants.{Head, Body as BodyStep, End, Bad, Idle}
use Rattle.pp_state.specs.declared.state.State.{State as Turn}
use Rattle.pp_states_law.specs.Readings.{with_raw}
use Rattle.pp_store.specs.Kept.{KeptMap}
use Rattle.pp_turns_law.specs.Sides.{ShowsSides}
use Rattle.pp_reads_law.proofs.ReadOn.{came_at, data_is, goes, here_peer, piece_with}
use Rattle.pp_reads_law.specs.Brings.{IsBehindPiece}
use Rattle.pp_reads_law.specs.Data.{MayGo}
use Rattle.pp_reads_law.specs.Pieces.{IsAmidBody, IsWithinBody, LeavesBytes, data_in}

-- these data came
pub record HasCome (x : Both) (n : ℕ) (a : Answer) (bytes came : Bytes) (between : Turn) : Type 0 where
  pub is_data : data_in a bytes ≡ came
  pub delivers : DataCame n came x.state between

-- and behind them this, in both
pub record IsOverBy (made : Sides → Sides) (law : State → State) (x next : Both) (s : State) (n : ℕ) (k : Conn) (a : Answer) (e : Exchange) (bytes : Bytes) : Type 0 where
  pub came : Bytes
  pub between : Turn
  pub has : HasCome x n a bytes came between
  pub peers : List Peer
  pub makes : Makes made (record { state = between; peers = peers }) next
  pub law_is : (body_piece k a bytes s).state ≡ law (deliver e a (length (payload_of a)) came s)

-- and the body goes on
pub record GoesOnBehind (x next : Both) (s : State) (n : ℕ) (k : Conn) (a : Answer) (e : Exchange) (bytes : Bytes) : Type 0 where
  pub came : Bytes
  pub has : HasCome x n a bytes came next.state
  pub law_is : (body_piece k a bytes s).state ≡ on_conn k.number (with_raw a bytes) (deliver e a (length (payload_of a)) came s)

abbrev pub IsOver : Both → Both → State → ℕ → Conn → Answer → Exchange → Bytes → Type 0
IsOver x next s n k a e bytes = GoesOnBehind x next s n k a e bytes ⊎ (IsOverBy (response_whole n) (λ t. finish k e a t) x next s n k a e bytes ⊎ IsOverBy (bad_response n) (λ t. law_bad_response k t) x next s n k a e bytes)

some_more : (came bytes : Bytes) (from to : ℕ) → from < to → to ≤ length bytes → came ++ slice_range bytes from to ≡ [] → ⊥
some_more came bytes from to some within is =
    absurd
    (omega (arith, some, within, ap (λ (bs : Bytes). length bs) is, length-append came (slice_range bytes from to), length-take (to - from) (drop from bytes), length-drop from bytes))

module _ (number : ℕ → ℕ) (name : Bytes) (x : Both) (s : State) (n : ℕ) (k : Conn) (a : Answer) (peer : Peer) (e : Exchange) (bytes : Bytes) (shows : ShowsSides number name (sides_of x) s) (it : IsWithinBody x s n k a peer e)
    (shelf : KeptMap) (z next : Both) (here : Remains) (behind : Option Remains) (may : MayGo x.state s e (data_in a bytes)) (amid : IsAmidBody x z n peer a bytes here) (over : LeavesBytes behind (body_piece k a bytes s).rest) where
  abbrev Result : Type 0
  Result = IsOver x next s n k a e bytes

  by_step : (used : ℕ) (step : Step) (left : Reading) (fed : List Peer) → used ≤ length here.bytes → IsBodyRead a bytes here.bytes here.came used step left → TakesStep step shelf n here.came (record z { peers = fed }) next → behind ≡ left_behind used step here → Result
  by_step used Head left fed within read takes leaves = absurd read
  by_step used (BodyStep from to) left fed within read takes leaves =
      absurd
      (some_more here.came here.bytes from to read.some (omega (arith, read.within, within))
      (ap (λ (r : Remains). r.came) (subst (λ (o : Option Remains). LeavesBytes o (body_piece k a bytes s).rest) leaves over)))
  by_step used End left fed within read takes leaves =
      let body : Body = record { payload = payload_of a ++ here.came; outcome = Done (drop used here.bytes) } in
      inr
      (inl
      (record {
        came = here.came;
        between = takes.between;
        has = record { is_data = data_is number name x s n k a peer e bytes shows it shelf z next here behind may amid body read.body refl; delivers = came_at number name x s n k a peer e bytes shows it shelf z next here behind may amid here.came takes.between takes.delivers };
        peers = fed;
        makes = takes.makes;
        law_is =
            ap (λ (p : Piece). p.state) (piece_with number name x s n k a peer e bytes shows it shelf z next here behind may amid body read.body)
            ∙ ap (λ (bs : Bytes). finish k e a (deliver e a (length (payload_of a)) bs s)) (drop_at (payload_of a) here.came (length (payload_of a)) refl);
      }))
  by_step used Bad left fed within read takes leaves =
      let body : Body = record { payload = payload_of a ++ here.came; outcome = NoBody } in
      inr
      (inr
      (record {
        came = here.came;
        between = takes.between;
        has = record { is_data = data_is number name x s n k a peer e bytes shows it shelf z next here behind may amid body read.body refl; delivers = came_at number name x s n k a peer e bytes shows it shelf z next here behind may amid here.came takes.between takes.delivers };
        peers = fed;
        makes = takes.makes;
        law_is =
            ap (λ (p : Piece). p.state) (piece_with number name x s n k a peer e bytes shows it shelf z next here behind may amid body read.body)
            ∙ ap (λ (bs : Bytes). law_bad_response k (deliver e a (length (payload_of a)) bs s)) (drop_at (payload_of a) here.came (length (payload_of a)) refl);
      }))
  by_step used Idle left fed within read takes leaves =
      let body : Body = record { payload = payload_of a ++ here.came; outcome = Going } in
      inl
      (record {
        came = here.came;
        has = record { is_data = data_is number name x s n k a peer e bytes shows it shelf z next here behind may amid body read.body refl; delivers = came_at number name x s n k a peer e bytes shows it shelf z next here behind may amid here.came next.state takes.0 };
        law_is =
            ap (λ (p : Piece). p.state) (piece_with number name x s n k a peer e bytes shows it shelf z next here behind may amid body read.body)
            ∙ ap (λ (bs : Bytes). on_conn k.number (with_raw a bytes) (deliver e a (length (payload_of a)) bs s)) (drop_at (payload_of a) here.came (length (payload_of a)) refl);
      })

  pub is_over : IsStepOn (going_on (find (is_number n) z.peers)) shelf n here z next behind → Result
  is_over on = by (subst (λ (o : Option Peer). IsStepOn o shelf n here z next behind) (goes number name x s n k a peer e bytes shows it shelf z next here behind may amid) on)
    where
      its : Peer
      its = here_peer number name x s n k a peer e bytes shows it shelf z next here behind may amid

      by : IsStep shelf n its here z next behind → Result
      by one =
          by_step one.told.0 one.told.1 one.feeds.left one.fed one.feeds.within
          (bodies a amid.reading bytes here.bytes here.came (awaited its.pipe.asks) one.told.0 one.told.1 one.feeds.left amid.shows one.feeds.fed) one.takes one.leaves

-- ---- of a moment behind a piece

pub piece_is_over : (number : ℕ → ℕ) (name : Bytes) (shelf : KeptMap) (n : ℕ) (x : Both) (s : State) (bytes : Bytes) (next : Both) (t : State) (rest : Bytes) → ShowsSides number name (sides_of x) s → (b : IsBehindPiece name shelf n x s bytes next t rest) → MayGo x.state s b.exchange (data_in b.answer bytes)
    → IsOver x next s n b.conn b.answer b.exchange bytes
piece_is_over number name shelf n x s bytes next t rest shows b may =
    is_over number name x s n b.conn b.answer b.peer b.exchange bytes shows b.within shelf b.amid next b.here b.after may b.is_amid b.over.leaves b.step
