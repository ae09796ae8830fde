-- What comes on a connection goes on amid a head or a body.
use Rattle.std.proofs.Common.{◌≡◌, refl, sym, subst, ap, ℕ, Bool, true, false, ◌==◌, cond, drop, find, List, [], ◌∷◌, ◌++◌, Some, Option, Result, Ok, Err}
use Rattle.pp_framing.specs.Framing.{rule_of}
use Rattle.pp_framing.specs.declared.body.BodyRule.{BodyRule}
use Rattle.pp_framing.specs.declared.framing.ResponseFault.{ResponseFault}
use Rattle.pp_head.specs.Read.{Read, Whole, TooLong, Bad as NoHead, More}
use Rattle.pp_head.specs.Response.{Response, response_at}
use Rattle.pp_law.specs.Connections.{conn, exchange, is_conn, on_conn}
use Rattle.pp_law.specs.Lists.{Bytes}
use Rattle.pp_law.specs.Responses.{answer_with, asks_head}
use Rattle.pp_law.specs.State.{State, Answer, Conn, Exchange}
use Rattle.pp_peers.specs.Peers.{is_number}
use Rattle.pp_peers.specs.declared.peers.Peer.{Peer}
use Rattle.pp_peers_law.proofs.Heads.{heads}
use Rattle.pp_peers_law.specs.Comes.{IsFinalRead, IsHeadRead, IsRefused, IsRuledRead, IsTextRead, behind_interim}
use Rattle.pp_peers_law.specs.Peers.{ShowsConn, ShowConns, ShowsPipe, ShowsReading, ShowsStaying}
use Rattle.pp_pipe.specs.Front.{stays_open}
use Rattle.pp_pipe.specs.Reading.{Reading, Before, Within, Closed, Broken}
use Rattle.pp_pipe.specs.declared.step.Step.TheVariants.{Idle}
use Rattle.pp_states_law.specs.Readings.{AnswersBeginAsTheLaws, BodiesGoOnAsTheLaws, HeadsGoOnAsTheLaws, ReadingsAreTheLaws}
use Rattle.pp_states_law.proofs.Alone.{same_some}
use Rattle.pp_states_law.proofs.Asked.{conn_again, itself, line_as}
use Rattle.pp_states_law.proofs.Connected.{kept_line}

-- ---- the connection that is shown

pub shown_at : (s : State) (n : ℕ) (ps : List Peer) (ks : List Conn) (peer : Peer) (k : Conn) → find (is_number n) ps ≡ Some peer → find (is_conn n) ks ≡ Some k → ShowConns s ps ks → ShowsConn s peer k
shown_at s n [] ks peer k linked there shows = absurd (cc linked)
shown_at s n (p ∷ ps) [] peer k linked there shows = absurd shows
shown_at s n (p ∷ ps) (j ∷ ks) peer k linked there shows = by (is_number n p) (is_conn n j) (ap (λ (m : ℕ). m == n) shows.0.number) linked there (λ a b. shown_at s n ps ks peer k a b shows.1)
  where
    here : p ≡ peer → j ≡ k → ShowsConn s peer k
    here one other = subst (λ (x : Peer). ShowsConn s x k) one (subst (λ (i : Conn). ShowsConn s p i) other shows.0)

    by : (b c : Bool) → b ≡ c → cond b (Some p) (find (is_number n) ps) ≡ Some peer → cond c (Some j) (find (is_conn n) ks) ≡ Some k → (find (is_number n) ps ≡ Some peer → find (is_conn n) ks ≡ Some k → ShowsConn s peer k) → ShowsConn s peer k
    by true true same one other rest = here (let e : p ≡ peer = cc one in e) (let e : j ≡ k = cc other in e)
    by true false same one other rest = absurd cc
    by false true same one other rest = absurd cc
    by false false same one other rest = rest one other

-- ---- its pipe reads on

read_conn : (s : State) (peer : Peer) (k : Conn) (left : Reading) (stays : Bool) (u : Bytes) (o : Option Answer) → (k.is_closing ≡ false → ShowsReading left u o) → (k.is_closing ≡ false → ShowsStaying stays o) → ShowsConn s peer k
    → ShowsConn s (record peer { pipe = record peer.pipe { reading = left }; stays = stays }) (record k { unread = u; answer = o })
read_conn s peer k left stays u o reads says shown = record {
  number = shown.number;
  host = shown.host;
  port = shown.port;
  is_reached = shown.is_reached;
  has_brought = shown.has_brought;
  may_pipeline = shown.may_pipeline;
  is_closing = shown.is_closing;
  stays = says;
  mark = shown.mark;
  has_waited = shown.has_waited;
  pipe = λ goes. record { line = (shown.pipe goes).line; stray = (shown.pipe goes).stray; out = (shown.pipe goes).out; reading = reads goes; none_alone = (shown.pipe goes).none_alone };
}

pub readings : ReadingsAreTheLaws
unfolding on_conn
readings number name owed l p s shows peer k left stays unread answer apart is reads says =
    kept_line number name owed l p s shows k.number (record peer { pipe = record peer.pipe { reading = left }; stays = stays }) to (apart k.number) (λ j. (refl, refl)) goes
  where
    to : Conn → Conn
    to j = record j { unread = unread j; answer = answer j }

    t : State
    t = on_conn k.number to s

    again : (q : Peer) (j : Conn) → ShowsConn s q j → ShowsConn t q j
    again q j shown = conn_again s t q j (λ going. line_as s t (λ m. itself (exchange s m)) j.line) shown

    goes : (q : Peer) (j : Conn) → find (is_number k.number) p.peers ≡ Some q → find (is_conn k.number) s.conns ≡ Some j → ShowsConn s q j → ShowsConn t (record peer { pipe = record peer.pipe { reading = left }; stays = stays }) (to j)
    goes q j found there shown =
        let same : j ≡ k = same_some k j (conn s k.number) is.there there in
        subst (λ (i : Conn). ShowsConn t (record peer { pipe = record peer.pipe { reading = left }; stays = stays }) (to i)) (sym same)
        (read_conn t peer k left stays (unread k) (answer k) (λ going. reads) (λ going. says)
        (again peer k (subst (λ (i : Conn). ShowsConn s peer i) same (subst (λ (r : Peer). ShowsConn s r j) (same_some peer q (find (is_number k.number) p.peers) is.linked found) shown))))

-- ---- amid a head

pub no_refusal : (bytes : Bytes) (used : ℕ) (left : Reading) → IsRefused bytes used Idle left → ⊥
no_refusal bytes used left told = let e = told.tells in absurd (cc e)

no_rule : (e : Exchange) (head : Response) (rest bytes : Bytes) (rule : Result BodyRule ResponseFault) (used : ℕ) (left : Reading) → IsRuledRead e head rest bytes rule used Idle left → ⊥
no_rule e head rest bytes (Ok rule) used left read = let t = read.tells in absurd (cc t)
no_rule e head rest bytes (Err fault) used left read = no_refusal bytes used left read

pub no_final : (e : Exchange) (head : Response) (rest bytes : Bytes) (b : Bool) (used : ℕ) (left : Reading) → IsFinalRead e head rest bytes b used Idle left → ⊥
no_final e head rest bytes true used left read = no_refusal bytes used left read.1
no_final e head rest bytes false used left read = no_rule e head rest bytes (rule_of (asks_head e) head.status head.fields) used left read

waits : (e : Exchange) (text bytes : Bytes) (read : Read Response) (used : ℕ) (left : Reading) → IsHeadRead e text bytes read used Idle left → left ≡ Before text
waits e text bytes (Whole head) used left is = absurd (no_final e head (drop head.length text) bytes (head.status == 101) used left is.1)
waits e text bytes TooLong used left is = absurd (no_refusal bytes used left is)
waits e text bytes NoHead used left is = absurd (no_refusal bytes used left is)
waits e text bytes More used left is = is.leaves

pub heads_go_on : HeadsGoOnAsTheLaws
heads_go_on number name owed l p s shows peer k e b bytes used left apart is none early first fed =
    readings number name owed l p s shows peer k left peer.stays (λ j. text) (λ j. j.answer) apart is
    (subst (λ (r : Reading). ShowsReading r text k.answer) (sym at) (subst (λ (o : Option Answer). ShowsReading (Before text) text o) (sym none) refl))
    (subst (λ (o : Option Answer). ShowsStaying peer.stays o) (sym none) tt)
  where
    text : Bytes
    text = behind_interim (k.unread ++ b ∷ bytes)

    read : IsTextRead e k.unread (b ∷ bytes) used Idle left
    read = heads s peer k e (b ∷ bytes) used Idle left (shown_at s k.number p.peers s.conns peer k is.linked is.there shows.conns) is.goes_on none early first fed

    at : left ≡ Before text
    at = waits e text (b ∷ bytes) (response_at text) used left read

-- ---- amid a body

pub answers_begin : AnswersBeginAsTheLaws
answers_begin number name owed l p s shows peer k e head rule left apart is reads = readings number name owed l p s shows peer k left (stays_open head) (λ j. []) (λ j. Some (answer_with e head rule)) apart is reads refl

nothing_unread : (reading : Reading) (unread : Bytes) (a : Answer) → ShowsReading reading unread (Some a) → unread ≡ []
nothing_unread (Before text) unread a shows = absurd shows
nothing_unread (Within response place) unread a shows = shows.0
nothing_unread Closed unread a shows = absurd shows
nothing_unread Broken unread a shows = absurd shows

pub bodies_go_on : BodiesGoOnAsTheLaws
bodies_go_on number name owed l p s shows peer k a bytes left apart is has reads =
    readings number name owed l p s shows peer k left peer.stays (λ j. j.unread) (λ j. Some (record a { raw = a.raw ++ bytes })) apart is (subst (λ (u : Bytes). ShowsReading left u (Some (record a { raw = a.raw ++ bytes }))) (sym none) reads)
    (subst (λ (o : Option Answer). ShowsStaying peer.stays o) has (shown.stays is.goes_on))
  where
    shown : ShowsConn s peer k
    shown = shown_at s k.number p.peers s.conns peer k is.linked is.there shows.conns

    pipe : ShowsPipe s peer k
    pipe = shown.pipe is.goes_on

    none : k.unread ≡ []
    none = nothing_unread peer.pipe.reading k.unread a (subst (λ (o : Option Answer). ShowsReading peer.pipe.reading k.unread o) has pipe.reading)
