-- Where a head is awaited, one step of the pipe is a piece of the law.
use Rattle.std.proofs.Common.{◌≡◌, ◌⊎◌, inl, inr, refl, sym, subst, ap, ap₂, ◌∙◌, ℕ, Bool, true, false, not, ◌==◌, ◌&&◌, cond, drop, find, List, [], ◌∷◌, Option, Some, None, Result, Ok, Err}
use Rattle.std.specs.Prelude.{is_ok}
use Rattle.pp_cache_law.proofs.Finds.{find_passes}
use Rattle.pp_cache_law.proofs.Numbers.{some_is}
use Rattle.pp_turns_law.proofs.Peers.{HasPeer, linked}
use Rattle.pp_turns_law.specs.Sides.{ShowsSides}
use Rattle.pp_desk.specs.Closings.{Sides}
use Rattle.pp_flow_law.proofs.Entries.{same_number}
use Rattle.pp_flow_law.specs.Tables.{none_leaves}
use Rattle.pp_framing.specs.Framing.{rule_of}
use Rattle.pp_framing.specs.declared.body.BodyRule.{BodyRule}
use Rattle.pp_framing.specs.declared.framing.ResponseFault.{ResponseFault}
use Rattle.pp_head.specs.Read.{Read, Whole, TooLong, Bad as NoHead, More}
use Rattle.pp_head.specs.Response.{Response, response_at}
use Rattle.pp_law.specs.Connections.{close_conn, conn, front_of_line, is_conn, is_outstanding, on_conn}
use Rattle.pp_law.specs.Lists.{Bytes, is_some_with}
use Rattle.pp_law.specs.OwnHeads.{is_wrong_head, key_of}
use Rattle.pp_law.specs.Responses.{Piece, answer_for, asks_head, bad_head, begin_answer, bring_row, head_came, head_piece_of, is_early, is_readable, with_unread}
use Rattle.pp_law.specs.State.{State, Conn, Exchange}
use Rattle.pp_law.specs.Table.{enter}
use Rattle.pp_origins.specs.Gots.{Both, DataCameThen, HeadCame, IsStep, IsStepOn, Remains, TakesStep, going_on, left_behind, remaining, sides_of}
use Rattle.pp_origins.specs.Responses.{bad_response}
use Rattle.pp_peers.specs.Peers.{is_number, with_peer, with_pipe}
use Rattle.pp_peers.specs.declared.peers.Peer.{Peer}
use Rattle.pp_peers_law.proofs.Heads.{heads}
use Rattle.pp_peers_law.specs.Comes.{IsFinalRead, IsHeadRead, IsRuledRead}
use Rattle.pp_peers_law.specs.Peers.{ShowsConn}
use Rattle.pp_pipe.specs.Asks.{awaited}
use Rattle.pp_pipe.specs.Feeding.{IsFed}
use Rattle.pp_pipe.specs.Front.{is_interim}
use Rattle.pp_pipe.specs.Line.{stepped}
use Rattle.pp_pipe.specs.Reading.{Reading}
use Rattle.pp_pipe.specs.declared.step.Step.{Step}
use Rattle.pp_pipe.specs.declared.step.Step.TheVariants.{Head, Bad, Idle}
use Rattle.pp_state.specs.Ends.{KeepsRest, parts}
use Rattle.pp_state.specs.declared.state.State.{State as Turn}
use Rattle.pp_states_law.proofs.Alone.{piped as pipe_is}
use Rattle.pp_states_law.proofs.ReadOn.{heads_go_on}
use Rattle.pp_states_law.specs.States.{ShowsState}
use Rattle.pp_states_law.proofs.Told.{conn_next, told_next}
use Rattle.pp_states_law.specs.Steps.{whole}
use Rattle.pp_store.specs.Kept.{KeptMap}
use Rattle.pp_reads_law.proofs.Amid.{set_may}
use Rattle.pp_reads_law.proofs.BadOnes.{bad_heads}
use Rattle.pp_reads_law.specs.Awaits.{HeadFails, HeadIsThere, HeadStepsAsTheLaws, WaitsForMore, text_of}
use Rattle.pp_reads_law.specs.Bads.{piped}
use Rattle.pp_reads_law.specs.Heads.{HeadIsDue, HeadIsRead}

-- ---- of the law

-- its piece, by what stands at the front of the text
abbrev pub pieces : State → Conn → Bytes → Read Response → Piece
pieces s k text v = elim v as (λ p. Piece) [
  | More ↦ record { state = on_conn k.number (with_unread text) s; rest = [] }
  | TooLong ↦ record { state = bad_head k s; rest = [] }
  | NoHead ↦ record { state = bad_head k s; rest = [] }
  | Whole h ↦ elim (is_interim h.status) as (λ p. Piece) [
    | true ↦ record { state = on_conn k.number (with_unread []) s; rest = drop h.length text }
    | false ↦ record { state = head_came k h s; rest = drop h.length text }
  ]
]

-- one that is not read on brings no row in, and is refused
module _ (s : State) (k : Conn) (e : Exchange) (head : Response) (front : front_of_line s k ≡ Some e) where
  abbrev answer_by : Bool → Result BodyRule ResponseFault → State → State
  answer_by w rule t = elim w as (λ u. State) [ true ↦ bad_head k t | false ↦ elim rule as (λ u. State) [ Ok r ↦ begin_answer k e head r t | Err fault ↦ bad_head k t ] ]

  abbrev row_by : Bool → State
  row_by b = elim b as (λ u. State) [ true ↦ enter (key_of e) true s | false ↦ s ]

  came_is : head_came k head s ≡ answer_by (is_wrong_head e head) (rule_of (asks_head e) head.status head.fields) (row_by (is_readable e head))
  unfolding head_came answer_for bring_row
  came_is = ap (λ (o : Option Exchange). elim o as (λ t. State) [ None ↦ close_conn false k s | Some d ↦ answer_for k d head (bring_row d head s) ]) front

  wrong_fails : (head.status == 101) ≡ true → is_wrong_head e head ≡ true → head_came k head s ≡ bad_head k s
  wrong_fails status wrong =
      came_is ∙ ap (λ (w : Bool). answer_by w (rule_of (asks_head e) head.status head.fields) (row_by (is_readable e head))) wrong
      ∙ ap (λ (b : Bool). bad_head k (row_by (not b && is_ok (rule_of (asks_head e) head.status head.fields)))) status

  ruled_fails : (head.status == 101) ≡ false → (fault : ResponseFault) → rule_of (asks_head e) head.status head.fields ≡ Err fault → head_came k head s ≡ bad_head k s
  ruled_fails status fault rule =
      came_is
      ∙ ap (λ (r : Result BodyRule ResponseFault). answer_by (is_wrong_head e head) r (row_by (not (head.status == 101) && is_ok r))) rule
      ∙ ap (λ (b : Bool). answer_by (is_wrong_head e head) (Err fault) (row_by (not b && false))) status
      ∙ by (is_wrong_head e head)
    where
      by : (w : Bool) → answer_by w (Err fault) s ≡ bad_head k s
      by true = refl
      by false = refl

  pub final_is : (text : Bytes) → response_at text ≡ Whole head → is_interim head.status ≡ false → (let p : Piece = head_piece_of k text s in p) ≡ record { state = head_came k head s; rest = drop head.length text }
  final_is text is final =
      ap (λ (v : Read Response). pieces s k text v) is
      ∙ ap (λ (b : Bool). elim b as (λ p. Piece) [ true ↦ record { state = on_conn k.number (with_unread []) s; rest = drop head.length text } | false ↦ record { state = head_came k head s; rest = drop head.length text } ]) final

-- ---- one step

module _ (number : ℕ → ℕ) (name : Bytes) (shelf : KeptMap) (x next : Both) (s : State) (n : ℕ) (k : Conn) (e : Exchange) (peer : Peer) (b : ℕ) (bytes : Bytes) (behind : Option Remains) (shows : ShowsSides number name (sides_of x) s) (due : HeadIsDue x s n k e peer) (none : k.answer ≡ None) where
  abbrev text : Bytes
  text = text_of k (b ∷ bytes)

  abbrev here : Remains
  here = remaining (b ∷ bytes) []

  abbrev Leads : Type 0
  Leads = WaitsForMore number name x next s k text behind ⊎ (HeadFails number name x next s n k e text behind ⊎ HeadIsThere shelf x next s n k e peer text behind)

  kn : k.number ≡ n
  kn = same_number k.number n (find_passes (is_conn n) s.conns k due.due.on.there)

  own : ShowsConn s peer k
  own =
      let one : HasPeer s n x.peers k = linked s n x.peers s.conns k due.due.on.there shows.steps.shows.conns in
      subst (λ (p : Peer). ShowsConn s p k) (some_is one.peer peer (sym one.there ∙ due.linked)) one.shows

  goes : going_on (find (is_number n) x.peers) ≡ Some peer
  goes = ap (λ (o : Option Peer). going_on o) due.linked ∙ ap (λ (c : Bool). cond c None (Some peer)) (own.is_closing ∙ due.due.on.goes_on)

  early : is_early s k ≡ false
  early = ap (λ (o : Option Exchange). not (is_some_with is_outstanding o)) due.due.front ∙ ap (λ (c : Bool). not c) due.due.whole

  module _ (used : ℕ) (step : Step) (left : Reading) (fed : List Peer) (feeds : IsFed (awaited peer.pipe.asks) peer.pipe.reading (b ∷ bytes) used step left) (is : fed ≡ with_pipe n (stepped step left peer.pipe) x.peers) (takes : TakesStep step shelf n [] (record x { peers = fed }) next) (leaves : behind ≡ left_behind used step here) where
    -- ---- no head is whole

    waits : step ≡ Idle → response_at text ≡ More → Leads
    waits tells more =
        inl
        (record {
          more = more;
          leaves = leaves ∙ ap (λ (t : Step). left_behind used t here) tells;
          same = idle.0;
          shows =
              subst (λ (y : Sides). ShowsSides number name y waits_law)
              (sym (ap₂ (λ (q : Turn) (ps : List Peer). let y : Sides = record { parts = parts q; peers = ps } in y) idle.0 (idle.1 ∙ is ∙ ap (λ (t : Step). with_pipe n (stepped t left peer.pipe) x.peers) tells)))
              (record {
                steps = record {
                  shows =
                      subst (λ (ps : List Peer). ShowsState number name [] none_leaves (whole (parts x.state) ps) waits_law) (sym peers_same)
                      (heads_go_on number name [] none_leaves (whole (parts x.state) x.peers) s shows.steps.shows peer k e b bytes used left shows.may.apart
                      (record { linked = ap (λ (m : ℕ). find (is_number m) x.peers) kn ∙ due.linked; there = ap (λ (m : ℕ). conn s m) kn ∙ due.due.on.there; goes_on = due.due.on.goes_on }) none early due.due.front
                      (subst (λ (t : Step). IsFed (awaited peer.pipe.asks) peer.pipe.reading (b ∷ bytes) used t left) tells feeds));
                  order = shows.steps.order;
                  told = told_next number x.state.cache s.next_instance waits_law.next_instance x.state.flow (conn_next k.number (with_unread text) s) shows.steps.told;
                  refused = shows.steps.refused;
                };
                may = set_may k.number (with_unread text) s (λ j. refl) (λ j one. record { closed = one.closed; few = one.few }) shows.may;
              });
          law = ap (λ (v : Read Response). pieces s k text v) more;
        })
      where
        waits_law : State
        waits_law = on_conn k.number (with_unread text) s

        idle : (next.state ≡ x.state) × (next.peers ≡ fed)
        idle = subst (λ (t : Step). TakesStep t shelf n [] (record x { peers = fed }) next) tells takes

        peers_same : with_pipe n (record peer.pipe { reading = left }) x.peers ≡ with_peer k.number (record peer { pipe = record peer.pipe { reading = left } }) x.peers
        peers_same = pipe_is n (record peer.pipe { reading = left }) x.peers peer due.linked ∙ ap (λ (m : ℕ). with_peer m (record peer { pipe = record peer.pipe { reading = left } }) x.peers) (sym kn)

    -- ---- it is none

    fails : step ≡ Bad → (response_at text ≡ More → ⊥) → ((j : Conn) (t : State) → front_of_line t j ≡ Some e → (head_piece_of j text t).state ≡ bad_head j t) → Leads
    fails tells some law =
        inr
        (inl
        (record {
          some = some;
          leaves = leaves ∙ ap (λ (t : Step). left_behind used t here) tells;
          line = stepped Bad left peer.pipe;
          is = bad_is;
          rest = subst (λ (q : Turn). KeepsRest q next.state) bad.delivers bad.makes.rest;
          shows = subst (λ (y : Sides). ShowsSides number name y (bad_head k s)) (sym bad_is) (bad_heads number name (sides_of x) s shows n k e (stepped Bad left peer.pipe) due.due due.none);
          law = law;
        }))
      where
        bad : DataCameThen (bad_response n) n [] (record x { peers = fed }) next
        bad = subst (λ (t : Step). TakesStep t shelf n [] (record x { peers = fed }) next) tells takes

        bad_is : sides_of next ≡ bad_response n (piped n (stepped Bad left peer.pipe) (sides_of x))
        bad_is = bad.makes.is ∙ ap₂ (λ (q : Turn) (ps : List Peer). bad_response n (let y : Sides = record { parts = parts q; peers = ps } in y)) bad.delivers (is ∙ ap (λ (t : Step). with_pipe n (stepped t left peer.pipe) x.peers) tells)

    -- ---- it is there

    is_there : (head : Response) (rule : BodyRule) → step ≡ Head → response_at text ≡ Whole head → is_interim head.status ≡ false → HeadIsRead e head rule left → drop used (b ∷ bytes) ≡ drop head.length text → Leads
    is_there head rule tells whole final read follows =
        inr
        (inr
        (record {
          head = head;
          rule = rule;
          left = left;
          whole = whole;
          final = final;
          read = read;
          came =
              subst (λ (ps : List Peer). HeadCame shelf n (record x { peers = ps }) next) (is ∙ ap (λ (t : Step). with_pipe n (stepped t left peer.pipe) x.peers) tells)
              (subst (λ (t : Step). TakesStep t shelf n [] (record x { peers = fed }) next) tells takes);
          leaves = leaves ∙ ap (λ (t : Step). left_behind used t here) tells ∙ ap (λ (bs : Bytes). Some (remaining bs [])) follows;
          law = final_is s k e head due.due.front text whole final;
        }))

    no_more : {head : Response} → response_at text ≡ Whole head → response_at text ≡ More → ⊥
    no_more {head} one other = let both : Whole head ≡ More = sym one ∙ other in absurd (cc both)

    no_long : response_at text ≡ TooLong → response_at text ≡ More → ⊥
    no_long one other = let both : TooLong ≡ More = sym one ∙ other in absurd (cc both)

    no_head : response_at text ≡ NoHead → response_at text ≡ More → ⊥
    no_head one other = let both : NoHead ≡ More = sym one ∙ other in absurd (cc both)

    ruled : (head : Response) (rule : Result BodyRule ResponseFault) → rule_of (asks_head e) head.status head.fields ≡ rule → response_at text ≡ Whole head → is_interim head.status ≡ false → (head.status == 101) ≡ false
        → IsRuledRead e head (drop head.length text) (b ∷ bytes) rule used step left → Leads
    ruled head (Ok rule) rule_is whole final status read = is_there head rule read.tells whole final (record { final = status; rule_is = rule_is; shows = read.shows }) read.follows
    ruled head (Err fault) rule_is whole final status read =
        fails read.tells (no_more whole) (λ j t front. ap (λ (p : Piece). p.state) (final_is t j e head front text whole final) ∙ ruled_fails t j e head front status fault rule_is)

    finals : (head : Response) (c : Bool) → (head.status == 101) ≡ c → response_at text ≡ Whole head → is_interim head.status ≡ false → IsFinalRead e head (drop head.length text) (b ∷ bytes) c used step left → Leads
    finals head true status whole final read =
        fails read.1.tells (no_more whole) (λ j t front. ap (λ (p : Piece). p.state) (final_is t j e head front text whole final) ∙ wrong_fails t j e head front status read.0)
    finals head false status whole final read = ruled head (rule_of (asks_head e) head.status head.fields) refl whole final status read

    by_text : (v : Read Response) → response_at text ≡ v → IsHeadRead e text (b ∷ bytes) v used step left → Leads
    by_text (Whole head) whole read = finals head (head.status == 101) refl whole read.0 read.1
    by_text TooLong is_it read = fails read.tells (no_long is_it) (λ j t front. ap (λ (v : Read Response). (pieces t j text v).state) is_it)
    by_text NoHead is_it read = fails read.tells (no_head is_it) (λ j t front. ap (λ (v : Read Response). (pieces t j text v).state) is_it)
    by_text More more read = waits read.tells more

    stepped_is : Leads
    stepped_is = by_text (response_at text) refl (heads s peer k e (b ∷ bytes) used step left own due.due.on.goes_on none early due.due.front feeds)

  step_is : IsStepOn (going_on (find (is_number n) x.peers)) shelf n here x next behind → Leads
  step_is on = by (subst (λ (o : Option Peer). IsStepOn o shelf n here x next behind) goes on)
    where
      by : IsStep shelf n peer here x next behind → Leads
      by one = stepped_is one.told.0 one.told.1 one.feeds.left one.fed one.feeds.fed one.feeds.leaves one.takes one.leaves

pub head_steps : HeadStepsAsTheLaws
head_steps number name shelf x next s n k e peer b bytes behind shows due none on = step_is number name shelf x next s n k e peer b bytes behind shows due none on
