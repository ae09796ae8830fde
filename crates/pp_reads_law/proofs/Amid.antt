-- The pipe of a connection amid a body, and what the law has of its exchange behind the data.
use Rattle.std.proofs.Common.{◌≡◌, refl, sym, subst, ap, ◌∙◌, ℕ, suc, ◌+◌, Bool, true, false, not, ◌||◌, cond, find, List, [], ◌∷◌, Option, Some, None}
use Rattle.pp_cache_law.proofs.Numbers.{some_is}
use Rattle.pp_turns_law.proofs.Orderly.{mapped}
use Rattle.pp_turns_law.proofs.Peers.{HasPeer, linked, set_itself}
use Rattle.pp_turns_law.specs.Sides.{AreOrderly, IsOrderly, MayClose}
use Rattle.pp_endings_law.proofs.GoneShort.{apart_set, go_as, set_conns}
use Rattle.pp_law.specs.Connections.{is_conn, is_outstanding, on_client_of, on_conn}
use Rattle.pp_law.specs.Lists.{Bytes}
use Rattle.pp_law.specs.OwnHeads.{moved_on}
use Rattle.pp_law.specs.Passing.{pour}
use Rattle.pp_law.specs.Responses.{Piece, body_piece, finish, got, head_piece, next_piece, skip_body}
use Rattle.pp_law.specs.Stages.{bound_in, bound_of, is_headed, is_pending}
use Rattle.pp_law.specs.State.{State, Answer, Body, Pending, Joining, Relaying, Dropping, Bound, Conn, Exchange}
use Rattle.pp_peers.specs.Peers.{is_number, with_pipe}
use Rattle.pp_peers.specs.declared.peers.Peer.{Peer}
use Rattle.pp_peers_law.proofs.Bodies.{begins as reads_begin}
use Rattle.pp_peers_law.specs.Peers.{ShowsReading}
use Rattle.pp_pipe.specs.Line.{Line}
use Rattle.pp_states_law.proofs.Alone.{piped as pipe_is}
use Rattle.pp_text.specs.Bytes.{is_empty}
use Rattle.pp_reads_law.specs.Bads.{IsOpen}
use Rattle.pp_reads_law.specs.Pieces.{BodiesBeginAsTheLaws, PiecesAreGot}

-- ---- its pipe is set twice

pub pipe_twice : (n : ℕ) (one two : Line) (ps : List Peer) → with_pipe n two (with_pipe n one ps) ≡ with_pipe n two ps
pipe_twice n one two [] = refl
pipe_twice n one two (p ∷ ps) = by (is_number n p) refl (pipe_twice n one two ps)
  where
    by : (b : Bool) → is_number n p ≡ b → with_pipe n two (with_pipe n one ps) ≡ with_pipe n two ps
        → with_pipe n two (cond b ((let q : Peer = record p { pipe = one } in q) ∷ ps) (p ∷ with_pipe n one ps)) ≡ cond b ((let q : Peer = record p { pipe = two } in q) ∷ ps) (p ∷ with_pipe n two ps)
    by true is rest = ap (λ (b : Bool). cond b ((let q : Peer = record p { pipe = two } in q) ∷ ps) ((let q : Peer = record p { pipe = one } in q) ∷ with_pipe n two ps)) is
    by false off rest = ap (λ (b : Bool). cond b ((let q : Peer = record p { pipe = two } in q) ∷ with_pipe n one ps) (p ∷ with_pipe n two (with_pipe n one ps))) off ∙ ap (λ (qs : List Peer). p ∷ qs) rest

pub pipe_itself : (n : ℕ) (peer : Peer) (ps : List Peer) → find (is_number n) ps ≡ Some peer → with_pipe n peer.pipe ps ≡ ps
pipe_itself n peer ps there = pipe_is n peer.pipe ps peer there ∙ set_itself n peer ps there

-- ---- where the body begins, or goes on in a read

pub begins : BodiesBeginAsTheLaws
begins number name x s n k a peer e bytes shows it =
    let own : HasPeer s n x.peers k = linked s n x.peers s.conns k it.on.may.there shows.steps.shows.conns in
    let same : own.peer ≡ peer = some_is own.peer peer (sym own.there ∙ it.on.linked) in
    record {
      reading = peer.pipe.reading;
      shows =
          reads_begin peer.pipe.reading k.unread bytes a
          (subst (λ (o : Option Answer). ShowsReading peer.pipe.reading k.unread o) it.on.answer (subst (λ (p : Peer). ShowsReading p.pipe.reading k.unread k.answer) same (own.shows.pipe it.on.may.goes_on).reading));
      state = refl;
      peers = sym (pipe_itself n peer x.peers it.on.linked);
    }

-- ---- a connection is changed where it stands

pub set_may : (n : ℕ) (f : Conn → Conn) (s : State) → ((j : Conn) → (f j).number ≡ j.number) → ((j : Conn) → IsOrderly j → IsOrderly (f j)) → MayClose s → MayClose (on_conn n f s)
set_may n f s number orderly may = record {
  apart = apart_set n f s number may.apart;
  orderly = subst (λ (ks : List Conn). AreOrderly ks) (sym (set_conns n f s).0) (mapped (λ j. elim (is_conn n j) as (λ t. Conn) [ true ↦ f j | false ↦ j ]) (λ j one. by j one (is_conn n j)) s.conns may.orderly);
  go = go_as s (on_conn n f s) (set_conns n f s).1 (set_conns n f s).2 may.go;
}
  where
    by : (j : Conn) → IsOrderly j → (b : Bool) → IsOrderly (elim b as (λ t. Conn) [ true ↦ f j | false ↦ j ])
    by j one true = orderly j one
    by j one false = one

-- ---- the exchange behind its data

pub moved_headed : (m : ℕ) (e : Exchange) → is_headed e ≡ true → is_headed (moved_on m e) ≡ true
moved_headed m e headed = by e.body headed
  where
    by : (body : Body) → not (is_pending body) ≡ true → not (is_pending (elim (bound_in body) as (λ t. Exchange) [ None ↦ record e { body = body } | Some b ↦ record e { body = Joining (record b { next = b.next + m }) } ]).body) ≡ true
    by Pending is = is
    by (Joining b) is = refl
    by Relaying is = is
    by Dropping is = is

abbrev moved_by : Exchange → ℕ → Option Bound → Exchange
moved_by e m o = elim o as (λ t. Exchange) [ None ↦ e | Some b ↦ record e { body = Joining (record b { next = b.next + m }) } ]

pub moved_whole : (m : ℕ) (e : Exchange) → is_outstanding (moved_on m e) ≡ is_outstanding e
moved_whole m e = by (bound_of e)
  where
    by : (o : Option Bound) → is_outstanding (moved_by e m o) ≡ is_outstanding e
    by None = refl
    by (Some b) = refl

pub moved_same : (m : ℕ) (e : Exchange) → (moved_on m e).number ≡ e.number
moved_same m e = by (bound_of e)
  where
    by : (o : Option Bound) → (moved_by e m o).number ≡ e.number
    by None = refl
    by (Some b) = refl

-- it ends as that before it
pub moved_finish : (k : Conn) (m : ℕ) (e : Exchange) (a : Answer) (t : State) → finish k (moved_on m e) a t ≡ finish k e a t
unfolding finish skip_body pour on_client_of
moved_finish k m e a t = by (bound_of e)
  where
    by : (o : Option Bound) → finish k (moved_by e m o) a t ≡ finish k e a t
    by None = refl
    by (Some b) = refl

-- ---- the law reads a piece, and goes on

pub got_step : (more n b : ℕ) (bytes : Bytes) (s : State) (k : Conn) → IsOpen s n k → got (suc more) n (b ∷ bytes) s ≡ got more n (next_piece k (b ∷ bytes) s).rest (next_piece k (b ∷ bytes) s).state
unfolding got
got_step more n b bytes s k is =
    ap (λ (o : Option Conn). elim o as (λ t. State) [
      | None ↦ s
      | Some j ↦ elim (j.is_closing || is_empty (b ∷ bytes)) as (λ t. State) [ true ↦ s | false ↦ got more n (next_piece j (b ∷ bytes) s).rest (next_piece j (b ∷ bytes) s).state ]
    ]) is.there
    ∙ ap (λ (c : Bool). elim (c || false) as (λ t. State) [ true ↦ s | false ↦ got more n (next_piece k (b ∷ bytes) s).rest (next_piece k (b ∷ bytes) s).state ]) is.goes_on

pub pieces_got : PiecesAreGot
pieces_got more n b bytes s k a is has =
    got_step more n b bytes s k is
    ∙ ap (λ (p : Piece). got more n p.rest p.state) (ap (λ (o : Option Answer). elim o as (λ p. Piece) [ Some c ↦ body_piece k c (b ∷ bytes) s | None ↦ head_piece k (b ∷ bytes) s ]) has)
