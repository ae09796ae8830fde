-- The final head of a response is taken, or refused, as by the law.
use Rattle.std.proofs.Common.{◌≡◌, ◌≤◌, inl, inr, refl, sym, subst, ap, ap₂, ◌∙◌, ℕ, Bool, true, false, not, ◌&&◌, ◌||◌, find, List, [], ◌∷◌, Option, Some, None, Result, Ok, Err, option_map, arith}
use Rattle.std.specs.Prelude.{count_by, is_ok, is_some, nat_le, nat_lt, option_and_then, slice_get}
use Rattle.pp_answers.specs.FinalHeads.{AnswersAsk, TakesHead, answer_to, roomed_by, rule_for}
use Rattle.pp_answers_law.specs.Owns.{IsAtHead, IsShown}
use Rattle.pp_answers_law.specs.Takes.{IsTaken as IsTakenBySteps, MayFill, MayPass, OwnAnswersAreTheLaws, PartAnswersAreTheLaws, PassedAnswersAreTheLaws, RulesAreTheLaws, law_rule}
use Rattle.pp_cache_law.proofs.Finds.{find_passes}
use Rattle.pp_cache_law.proofs.Numbers.{some_is}
use Rattle.pp_cache_law.proofs.PairLemmas.{count_joined}
use Rattle.pp_turns_law.proofs.Peers.{find_set}
use Rattle.pp_turns_law.specs.Sides.{AreOrderly, MayClose, ShowsSides}
use Rattle.pp_desk.specs.Closings.{Sides}
use Rattle.pp_due.specs.Entering.{HasRowFor, MayCome, with_room_if_over}
use Rattle.pp_endings_law.proofs.Pipes.{numbered, peer_over, pipe_found, with_line}
use Rattle.pp_flow.specs.Changes.{Exchanges, entry_of, line_of}
use Rattle.pp_flow.specs.Entries.{is_number as is_entry}
use Rattle.pp_flow.specs.declared.entry.Entry.{Entry}
use Rattle.pp_flow_law.proofs.Entries.{none_some, same_number}
use Rattle.pp_flow_law.proofs.Standing.{entry_placed, none_waits}
use Rattle.pp_flow_law.specs.Tables.{line_in, none_leaves}
use Rattle.pp_framing.specs.Framing.{rule_of}
use Rattle.pp_framing.specs.declared.body.BodyRule.{BodyRule}
use Rattle.pp_framing.specs.declared.framing.ResponseFault.{ResponseFault}
use Rattle.pp_head.specs.Response.{Response}
use Rattle.pp_law.specs.Connections.{close_conn, conn, exchange, is_client, is_conn, is_exchange, on_conn}
use Rattle.pp_law.specs.Lists.{Bytes, has_number}
use Rattle.pp_law.specs.OwnHeads.{is_wrong_head}
use Rattle.pp_law.specs.Responses.{answer_for, answer_with, answered_by, asks_head, bad_head, begin_answer, bring_row, by_aim, end_if_empty, head_came, is_readable}
use Rattle.pp_law.specs.Stages.{filled_of}
use Rattle.pp_law.specs.State.{State, Aim, Answer, Client, Conn, Exchange, Filling, Own, Through}
use Rattle.pp_objects.specs.Instances.{Instance, is_row}
use Rattle.pp_origins.specs.Gots.{Both, GoesOnBehind, HeadCame, HeadCameFor, IsTaken, IsTakenBy, Makes, head_on, sides_of, stays_by, staying}
use Rattle.pp_origins.specs.Responses.{bad_response}
use Rattle.pp_peers.specs.Peers.{is_number, with_peer}
use Rattle.pp_peers.specs.declared.peers.Peer.{Peer}
use Rattle.pp_peers_law.specs.Peers.{ShowsReading}
use Rattle.pp_pipe.specs.Front.{stays_open}
use Rattle.pp_pipe.specs.Line.{Line}
use Rattle.pp_pipe.specs.Reading.{Reading, Before, Within, Closed, Broken, head_in}
use Rattle.pp_seats_law.specs.Exchanges.{ShowsExchange}
use Rattle.pp_state.specs.Ends.{KeepsRest, Parts, parts}
use Rattle.pp_state.specs.Keys.{key_of}
use Rattle.pp_state.specs.Lines.{first_on}
use Rattle.pp_state.specs.Pins.{forgotten_row, idle_row}
use Rattle.pp_state.specs.declared.state.State.{State as Turn}
use Rattle.pp_states_law.proofs.Lines.{IsOn, found_on, same_itself}
use Rattle.pp_states_law.proofs.ReadOn.{answers_begin}
use Rattle.pp_states_law.specs.States.{ShowsState}
use Rattle.pp_states_law.proofs.Charged.{same_entry}
use Rattle.pp_states_law.specs.Charges.{IsFor}
use Rattle.pp_states_law.specs.Steps.{ShowsSteps, whole}
use Rattle.pp_states_law.specs.Told.{IsTold}
use Rattle.pp_store.specs.Kept.{KeptMap}
use Rattle.pp_valid.specs.declared.version.Version.{Version}
use Rattle.pp_reads_law.proofs.BadOnes.{bad_heads}
use Rattle.pp_reads_law.proofs.Brings.{IsBeside, beside_brought, brings_beside}
use Rattle.pp_reads_law.proofs.FillBeside.{fills_beside}
use Rattle.pp_reads_law.proofs.Fronts.{IsFront, is_front}
use Rattle.pp_laws_replies.proofs.Quiet.{facts_of, quiet_same}
use Rattle.pp_laws_replies.proofs.QuietHeads.{by_aim-quiet}
use Rattle.pp_states_law.proofs.Told.{conn_next}
use Rattle.pp_reads_law.proofs.HeadsTold.{bad_head_grows, head_told, refused_told, row_told}
use Rattle.pp_reads_law.proofs.RowsIn.{brought}
use Rattle.pp_reads_law.specs.Told.{IsToldAt, StaysTold}
use Rattle.pp_reads_law.specs.Amid.{IsAmidRead, ShowsRead}
use Rattle.pp_reads_law.specs.Heads.{HeadIsDue, HeadIsRead, HeadIsRefused, HeadLeads, HeadsComeAsTheLaws, IsGivenBeside, IsGivenHead, MayAnswer, ShowsBoth, begun_by, with_head}
use Rattle.pp_reads_law.specs.Rows.{MayMakeRoom}

-- ---- who is there stays so

for_beside : {P : Client → Type 0} (s t : State) (e : Exchange) → t.clients ≡ s.clients → IsFor s e P → IsFor t e P
for_beside s t e same for n c asks found = for n c asks (sym (ap (λ (cs : List Client). find (is_client n) cs) same) ∙ found)

may_beside : (s t : State) → t.clients ≡ s.clients → t.conns ≡ s.conns → t.exchanges ≡ s.exchanges → MayClose s → MayClose t
may_beside s t clients conns exchanges may = record {
  apart = λ n. subst (λ (ks : List Conn). count_by (is_conn n) ks ≤ 1) (sym conns) (may.apart n);
  orderly = subst (λ (ks : List Conn). AreOrderly ks) (sym conns) may.orderly;
  go = record {
    going = λ n d there a c asks found. may.go.going n d (before n d there) a c asks (client_before a c found);
    coming = λ n d there a c asks found. may.go.coming n d (before n d there) a c asks (client_before a c found);
  };
}
  where
    before : (n : ℕ) (d : Exchange) → exchange t n ≡ Some d → exchange s n ≡ Some d
    before n d there = sym (ap (λ (es : List Exchange). find (is_exchange n) es) exchanges) ∙ there

    client_before : (a : ℕ) (c : Client) → find (is_client a) t.clients ≡ Some c → find (is_client a) s.clients ≡ Some c
    client_before a c found = sym (ap (λ (cs : List Client). find (is_client a) cs) clients) ∙ found

-- ---- what stands beside the row of its key where a head is taken, and where it is refused

pub record TakenHead (shelf : KeptMap) (x y : Both) (s : State) (k : Conn) (e : Exchange) (head : Response) (rule : BodyRule) : Type 0 where
  pub entry : Entry
  pub beside : Turn
  pub law : State
  pub number : ℕ → ℕ
  pub peers : List Peer
  pub at : IsAtHead number s.settings.name none_leaves peers beside law e.number entry e
  pub row : HasRowFor shelf (key_of e.number x.state.flow) x.state beside
  pub brought : law ≡ bring_row e head (on_conn k.number (answered_by (answer_with e head rule)) s)
  pub forgotten : beside.forgotten ≡ law.forgotten
  pub taken : TakesHead e.number entry.exchange entry.errand head rule beside (parts y.state)
  pub rest : KeepsRest (roomed_by head (Some (entry, rule)) beside) y.state
  pub begun : by_aim e head rule law ≡ begun_by k e head rule s

pub record RefusedHead (shelf : KeptMap) (x y : Both) (s : State) (n : ℕ) (k : Conn) (e : Exchange) (head : Response) : Type 0 where
  pub beside : Turn
  pub law : State
  pub number : ℕ → ℕ
  pub peers : List Peer
  pub shows : ShowsRead number none_leaves x.peers shelf beside law
  pub row : HasRowFor shelf (key_of e.number x.state.flow) x.state beside
  pub brought : law ≡ bring_row e head s
  pub ends : sides_of y ≡ bad_response n (record { parts = parts beside; peers = peers })
  pub rest : KeepsRest beside y.state
  pub law_is : head_came k head s ≡ bad_head k law

-- ---- a row that comes in leaves exchanges as they were

abbrev room_by : Turn → Bool → Bool → Option Instance → Turn
room_by p b c o = elim b as (λ t. Turn) [ true ↦ elim c as (λ t. Turn) [ true ↦ forgotten_row o p | false ↦ p ] | false ↦ p ]

room_flow : (p : Turn) → (with_room_if_over p).flow ≡ p.flow
room_flow p = by (nat_lt 1024 (count_by is_row p.cache.instances)) (nat_le 1024 (count_by is_row p.cache.instances)) (idle_row p)
  where
    by : (b c : Bool) (o : Option Instance) → (room_by p b c o).flow ≡ p.flow
    by true true None = refl
    by true true (Some i) = refl
    by true false o = refl
    by false c o = refl

row_flow : (shelf : KeptMap) (key : Option Bytes) (old new : Turn) → HasRowFor shelf key old new → new.flow ≡ old.flow
row_flow shelf None old new it = ap (λ (p : Turn). p.flow) it
row_flow shelf (Some key) old new it = ap (λ (p : Turn). p.flow) it.room ∙ room_flow it.entered ∙ by it.comes
  where
    by : MayCome shelf key old it.entered → it.entered.flow ≡ old.flow
    by (inl comes) = ap (λ (p : Turn). p.flow) comes.rest
    by (inr stays) = ap (λ (p : Turn). p.flow) stays

-- ---- what its pipe holds

head_there : (left : Reading) (e : Exchange) (head : Response) (rule : BodyRule) → ShowsReading left [] (Some (answer_with e head rule)) → head_in left ≡ Some head
head_there (Before text) e head rule shows = absurd shows
head_there (Within response place) e head rule shows = ap (λ (r : Response). Some r) shows.1.head
head_there Closed e head rule shows = absurd shows
head_there Broken e head rule shows = absurd shows

module _ (rules : RulesAreTheLaws) (own_answers : OwnAnswersAreTheLaws) (passed_answers : PassedAnswersAreTheLaws) (part_answers : PartAnswersAreTheLaws) (number : ℕ → ℕ) (shelf : KeptMap) (x y : Both) (s : State) (n : ℕ) (k : Conn) (e : Exchange) (peer : Peer) (head : Response) (rule : BodyRule) (left : Reading) (shows : ShowsBoth number shelf x s) (due : HeadIsDue x s n k e peer) (read : HeadIsRead e head rule left) (may : MayAnswer x.state s e head) where
  abbrev name : Bytes
  name = s.settings.name

  abbrev pipe : Line
  pipe = record peer.pipe { reading = left }

  abbrev old : Both
  old = with_head n peer left x

  abbrev first : IsFront s k e
  first = is_front s k e due.due.front

  kn : k.number ≡ n
  kn = same_number k.number n (find_passes (is_conn n) s.conns k due.due.on.there)

  steps : ShowsSteps number x.state.name.items none_leaves x.peers (parts x.state) s
  steps = shows.read.turn.steps

  line_is : line_of n x.state.flow.placed ≡ e.number ∷ first.others
  line_is = steps.shows.exchanges.lines n ∙ ap (λ (o : Option Conn). line_in o) due.due.on.there ∙ first.line

  pub first_is : first_on n (parts x.state) ≡ Some e.number
  first_is = ap (λ (ns : List ℕ). slice_get ns 0) line_is

  -- ---- its entry

  placed_few : count_by (is_entry e.number) x.state.flow.placed ≤ 1
  placed_few = omega (arith, steps.shows.exchanges.once e.number, count_joined (is_entry e.number) x.state.flow.waiting x.state.flow.placed)

  on : IsOn n e.number x.state.flow.placed
  on = found_on n e.number x.state.flow.placed placed_few (ap (λ (ns : List ℕ). has_number e.number ns) line_is ∙ ap (λ (b : Bool). b || has_number e.number first.others) (same_itself e.number))

  abbrev entry : Entry
  entry = on.entry

  here : entry_of e.number x.state.flow ≡ Some entry
  here = entry_placed e.number x.state.flow entry (none_waits number none_leaves x.state.flow s steps.shows.exchanges e.number entry on.there) on.there

  shown : ShowsExchange number entry e
  shown = same_entry number x.state.name.items none_leaves x.peers (parts x.state) s steps e.number entry e (record { here = here; there = first.known })

  readable : is_readable e head ≡ true
  readable = ap₂ (λ (b : Bool) (r : Result BodyRule ResponseFault). not b && is_ok r) read.final read.rule_is

  rule_so : rule_for entry.exchange entry.errand head ≡ law_rule e head
  rule_so = rules number entry e head shown

  law_rule_by : (b : Bool) → is_wrong_head e head ≡ b → law_rule e head ≡ (elim b as (λ o. Option BodyRule) [ true ↦ None | false ↦ Some rule ])
  law_rule_by b is =
      ap₂ (λ (c : Bool) (r : Result BodyRule ResponseFault). elim c as (λ o. Option BodyRule) [ true ↦ None | false ↦ elim r as (λ o. Option BodyRule) [ Ok one ↦ Some one | Err fault ↦ None ] ]) is read.rule_is

  -- ---- the law, by whether it is of its kind

  abbrev beside : State
  beside = bring_row e head s

  abbrev answer : Answer
  answer = answer_with e head rule

  abbrev law_by : Bool → State
  law_by b = elim b as (λ t. State) [ true ↦ bad_head k beside | false ↦ elim (rule_of (asks_head e) head.status head.fields) as (λ t. State) [ Ok r ↦ begin_answer k e head r beside | Err fault ↦ bad_head k beside ] ]

  law_is : head_came k head s ≡ law_by (is_wrong_head e head)
  unfolding head_came answer_for
  law_is = ap (λ (o : Option Exchange). elim o as (λ t. State) [ None ↦ close_conn false k s | Some d ↦ answer_for k d head (bring_row d head s) ]) due.due.front

  law_right : is_wrong_head e head ≡ false → head_came k head s ≡ end_if_empty k e answer (begun_by k e head rule s)
  unfolding begin_answer
  law_right is =
      law_is ∙ ap law_by is
      ∙ ap (λ (r : Result BodyRule ResponseFault). elim r as (λ t. State) [ Ok one ↦ begin_answer k e head one beside | Err fault ↦ bad_head k beside ]) read.rule_is

  law_wrong : is_wrong_head e head ≡ true → head_came k head s ≡ bad_head k beside
  law_wrong is = law_is ∙ ap law_by is

  -- ---- it is refused

  refuses : (number1 : ℕ → ℕ) (p between : Turn) → is_wrong_head e head ≡ true → ShowsRead number1 none_leaves x.peers shelf p beside → parts between ≡ parts p → sides_of y ≡ bad_response n (sides_of (record old { state = between })) → StaysTold number (parts x.state) s number1 (parts p) beside → HeadIsRefused number x y s k head
  refuses number1 p between is then same ends begins =
      let kept : IsBeside s beside = beside_brought e head s in
      let shown : ShowsSides number1 name (sides_of y) (head_came k head s) =
      subst (λ (t : State). ShowsSides number1 name (sides_of y) t) (sym (law_wrong is))
      (subst (λ (z : Sides). ShowsSides number1 name z (bad_head k beside)) (sym (ends ∙ ap (λ (q : Parts). let z : Sides = record { parts = q; peers = old.peers } in bad_response n z) same))
      (bad_heads number1 name (record { parts = parts p; peers = x.peers }) beside
      (record { steps = subst (λ (own : Bytes). ShowsSteps number1 own none_leaves x.peers (parts p) beside) (then.turn.name ∙ ap (λ c. c.name) kept.settings) then.turn.steps; may = may_beside s beside kept.clients kept.conns kept.exchanges shows.may }) n k e pipe
      (record {
        on = record { there = ap (λ (ks : List Conn). find (is_conn n) ks) kept.conns ∙ due.due.on.there; goes_on = due.due.on.goes_on };
        front = ap (λ (es : List Exchange). elim k.line as (λ o. Option Exchange) [ [] ↦ None | m ∷ rest ↦ find (is_exchange m) es ]) kept.exchanges ∙ due.due.front;
        whole = due.due.whole;
      }) due.none)) in
      record {
        number = number1;
        shows = shown;
        told = λ i told.
            refused_told number1 p (parts y.state) beside (head_came k head s) n old.peers then.turn.steps.shows.table.table shown.steps.shows.table.table
            (ap (λ (z : Sides). z.parts) (ends ∙ ap (λ (q : Parts). let z : Sides = record { parts = q; peers = old.peers } in bad_response n z) same))
            (subst (λ (t : State). beside.next_instance ≤ t.next_instance) (sym (law_wrong is)) (bad_head_grows k beside)) i (begins i told);
      }

  -- ---- the answer begins

  abbrev stayed : Peer
  stayed = record peer { pipe = pipe; stays = stays_open head }

  abbrev last_peers : List Peer
  last_peers = with_peer n stayed x.peers

  abbrev begun : State
  begun = on_conn k.number (answered_by answer) s

  begins : ShowsState number x.state.name.items [] none_leaves (whole (parts x.state) last_peers) begun
  begins =
      subst (λ (m : ℕ). ShowsState number x.state.name.items [] none_leaves (whole (parts x.state) (with_peer m stayed x.peers)) begun) kn
      (answers_begin number x.state.name.items [] none_leaves (whole (parts x.state) x.peers) s steps.shows peer k e head rule left shows.may.apart
      (record { linked = ap (λ (m : ℕ). find (is_number m) x.peers) kn ∙ due.linked; there = ap (λ (m : ℕ). conn s m) kn ∙ due.due.on.there; goes_on = due.due.on.goes_on }) read.shows)

  begun_read : ShowsRead number none_leaves last_peers shelf x.state begun
  unfolding on_conn
  begun_read = record {
    turn = record {
      steps = record { shows = begins; order = steps.order; told = steps.told; refused = steps.refused };
      name = shows.read.turn.name;
      shares = shows.read.turn.shares;
      clock = shows.read.turn.clock;
      ticked = shows.read.turn.ticked;
      stopped = shows.read.turn.stopped;
      bounded = shows.read.turn.bounded;
    };
    disk = shows.read.disk;
    may = record { few = shows.read.may.few; busy = shows.read.may.busy; given = shows.read.may.given };
    forgotten = shows.read.forgotten;
  }

  begun_told : StaysTold number (parts x.state) s number (parts x.state) begun
  begun_told i told seat id plain at is = subst (λ (m : ℕ). IsTold number x.state.cache m id) (sym (conn_next k.number (answered_by answer) s)) (told seat id plain at is)

  begun_room : MayMakeRoom begun
  unfolding on_conn
  begun_room full = let way = may.room full in record { row = way.row; idle = way.idle; may = record { new = way.may.new; few = way.may.few; short = way.may.short } }

  begun_known : exchange begun e.number ≡ Some e
  unfolding on_conn
  begun_known = first.known

  begun_clients : begun.clients ≡ s.clients
  unfolding on_conn
  begun_clients = refl

  begun_name : begun.settings.name ≡ name
  unfolding on_conn
  begun_name = refl

  -- ---- and is taken

  abbrev brings : State
  brings = bring_row e head begun

  brings_is : by_aim e head rule brings ≡ begun_by k e head rule s
  brings_is = ap (λ (t : State). by_aim e head rule t) (brings_beside k.number (answered_by answer) e head s)

  begun_instances : begun.instances ≡ s.instances
  unfolding on_conn
  begun_instances = refl

  module _ (number1 : ℕ → ℕ) (p between : Turn) (then : ShowsRead number1 none_leaves last_peers shelf p brings) (row : HasRowFor shelf (key_of e.number x.state.flow) x.state p) where
    flow : p.flow ≡ x.state.flow
    flow = row_flow shelf (key_of e.number x.state.flow) x.state p row

    kept : IsBeside begun brings
    kept = beside_brought e head begun

    own_name : p.name.items ≡ name
    own_name = then.turn.name ∙ ap (λ c. c.name) kept.settings ∙ begun_name

    same_clients : brings.clients ≡ s.clients
    same_clients = kept.clients ∙ begun_clients

    at_head : IsAtHead number1 name none_leaves last_peers p brings e.number entry e
    at_head = record {
      shows = subst (λ (own : Bytes). ShowsSteps number1 own none_leaves last_peers (parts p) brings) own_name then.turn.steps;
      own_name = own_name;
      clock = then.turn.clock;
      answered = record { placed = ap (λ (f : Exchanges). find (is_entry e.number) f.placed) flow ∙ on.there; there = ap (λ (es : List Exchange). find (is_exchange e.number) es) kept.exchanges ∙ begun_known };
      stands = for_beside s brings e same_clients may.stands;
      asks = for_beside s brings e same_clients may.asks;
      may = then.may;
      key = may.key;
    }

    passes_on : MayPass s e head → MayPass brings e head
    passes_on pass = record {
      client = λ goes. let one = pass.client goes in record { number = one.number; client = one.client; asker = one.asker; there = ap (λ (cs : List Client). find (is_client one.number) cs) same_clients ∙ one.there };
      key = for_beside s brings e same_clients pass.key;
    }

    takes : is_wrong_head e head ≡ false → between.refused ≡ [] → between.is_astray ≡ false → AnswersAsk e.number head (answer_to head (entry_of e.number p.flow)) p (parts between) → IsShown number1 p.cache.lives brings.next_instance name none_leaves last_peers (parts between) (by_aim e head rule brings)
    takes is given straight it = subst (λ (o : Option BodyRule). IsTakenBySteps number1 name none_leaves last_peers p brings e head (parts between) o) (law_rule_by false is) (by e.aim refl)
      where
        fills : is_some (filled_of e) ≡ true → MayFill p brings e
        fills aim = fills_beside shelf (key_of e.number x.state.flow) number x.state p s begun e head shows.read.turn.steps.shows.table.table row begun_clients begun_instances aim (may.fills aim)

        by : (a : Aim) → e.aim ≡ a → IsTakenBySteps number1 name none_leaves last_peers p brings e head (parts between) (law_rule e head)
        by Own own = own_answers number1 name none_leaves last_peers p brings e.number entry e head (parts between) at_head given own it
        by (Filling v from to) filling =
            part_answers number1 name none_leaves last_peers p brings e.number entry e head (parts between) at_head given
            (fills (ap (λ (a : Aim). is_some (elim a as (λ o. Option Version) [ Through ↦ None | Own ↦ None | Filling w i j ↦ Some w ])) filling)) it
        by Through through =
            passed_answers number1 name none_leaves last_peers p brings e.number entry e head (parts between) at_head given (record { aim = through; may = passes_on (may.passes through); straight = straight }) it

  answer_is : (p : Turn) → p.flow ≡ x.state.flow → (b : Bool) → is_wrong_head e head ≡ b → answer_to head (entry_of e.number p.flow) ≡ (elim b as (λ o. Option (Entry × BodyRule)) [ true ↦ None | false ↦ Some (entry, rule) ])
  answer_is p flow b is =
      ap (λ (f : Exchanges). answer_to head (entry_of e.number f)) flow ∙ ap (λ (o : Option Entry). answer_to head o) here
      ∙ ap (λ (o : Option BodyRule). option_map (λ r. (entry, r)) o) (rule_so ∙ law_rule_by b is) ∙ at b
    where
      at : (b : Bool) → option_map (λ r. (entry, r)) (elim b as (λ o. Option BodyRule) [ true ↦ None | false ↦ Some rule ]) ≡ (elim b as (λ o. Option (Entry × BodyRule)) [ true ↦ None | false ↦ Some (entry, rule) ])
      at true = refl
      at false = refl

  -- ---- the program

  old_peer : find (is_number n) old.peers ≡ Some (with_line pipe peer)
  old_peer = pipe_found n pipe x.peers ∙ ap (λ (o : Option Peer). option_map (with_line pipe) o) due.linked

  its_head : head_on n old.peers ≡ Some head
  its_head = ap (λ (o : Option Peer). option_and_then (λ q. head_in q.pipe.reading) o) old_peer ∙ head_there left e head rule read.shows

  stayed_there : find (is_number n) last_peers ≡ Some stayed
  stayed_there = find_set n peer stayed x.peers (numbered n peer x.peers due.linked) due.linked

  peers_then : staying n (stays_open head) (find (is_number n) old.peers) old.peers ≡ last_peers
  peers_then = ap (λ (o : Option Peer). staying n (stays_open head) o old.peers) old_peer ∙ peer_over n pipe stayed x.peers

  module _ (it : HeadCameFor (Some e.number) shelf n old y) (given : IsGivenBeside shelf n e.number old y it) (none : y.state.refused ≡ []) where
    abbrev p : Turn
    p = it.beside

    flow_same : p.flow ≡ x.state.flow
    flow_same = row_flow shelf (key_of e.number x.state.flow) x.state p it.row

    abbrev stays : Option Bool
    stays = it.answers.stays

    abbrev between : Turn
    between = it.answers.between

    taken : IsTakenBy (answer_to head (entry_of e.number p.flow)) e.number head stays p between
    taken = subst (λ (o : Option Response). IsTaken o e.number stays p between) its_head it.answers.taken

    by_kind : y.state.is_astray ≡ false → (b : Bool) → is_wrong_head e head ≡ b → HeadLeads number b x y s n k e head rule
    by_kind straight true is =
        let none_answers : answer_to head (entry_of e.number p.flow) ≡ None = answer_is p flow_same true is in
        let one : IsAmidRead number x.state.cache.lives s.next_instance none_leaves x.peers shelf p beside = brought number none_leaves x.peers shelf x.state p s e.number entry e head shows.read may.room here shown readable it.row given.row it.bounded in
        refuses one.number p between is one.shows
        (subst (λ (o : Option (Entry × BodyRule)). AnswersAsk e.number head o p (parts between)) none_answers taken.is)
        (ends_none (taken.stays_is ∙ ap (λ (o : Option (Entry × BodyRule)). stays_by head o) none_answers))
        (row_told number one.number shelf x.state p s beside e.number steps.shows.table.table one.shows.turn.steps.shows.table.table it.row one.keeps one.grows)
      where
        ends_none : stays ≡ None → sides_of y ≡ bad_response n (sides_of (record old { state = between }))
        ends_none gone = goes (subst (λ (o : Option Bool). GoesOnBehind o n (record old { state = between }) y) gone it.answers.goes_on)
          where
            goes : GoesOnBehind None n (record old { state = between }) y → sides_of y ≡ bad_response n (sides_of (record old { state = between }))
            goes makes = makes.is
    by_kind straight false is =
        let answers : answer_to head (entry_of e.number p.flow) ≡ Some (entry, rule) = answer_is p flow_same false is in
        let one : IsAmidRead number x.state.cache.lives begun.next_instance none_leaves last_peers shelf p brings =
        brought number none_leaves last_peers shelf x.state p begun e.number entry e head begun_read begun_room here shown readable it.row given.row it.bounded in
        let goes : y ≡ record old { state = between; peers = staying n (stays_open head) (find (is_number n) old.peers) old.peers } =
        goes_on (taken.stays_is ∙ ap (λ (o : Option (Entry × BodyRule)). stays_by head o) answers) in
        let peers : y.peers ≡ last_peers = ap (λ (z : Both). z.peers) goes ∙ peers_then in
        let state : y.state ≡ between = ap (λ (z : Both). z.state) goes in
        let shown_then : IsShown one.number p.cache.lives brings.next_instance name none_leaves last_peers (parts between) (by_aim e head rule brings) =
        takes one.number p between one.shows it.row is (ap (λ (q : Turn). q.refused) (sym state) ∙ none) (ap (λ (q : Turn). q.is_astray) (sym state) ∙ straight) taken.is in
        record {
          number = shown_then.number;
          shows =
              subst (λ (ps : List Peer). ShowsSteps shown_then.number name none_leaves ps (parts y.state) (begun_by k e head rule s)) (sym peers)
              (subst (λ (q : Turn). ShowsSteps shown_then.number name none_leaves last_peers (parts q) (begun_by k e head rule s)) (sym state)
              (subst (λ (t : State). ShowsSteps shown_then.number name none_leaves last_peers (parts between) t) brings_is shown_then.shows));
          told = λ i told.
              subst (λ (t : State). IsToldAt i shown_then.number (parts y.state) t) brings_is
              (subst (λ (q : Turn). IsToldAt i shown_then.number (parts q) (by_aim e head rule brings)) (sym state)
              (head_told one.number shown_then.number name last_peers p between brings (by_aim e head rule brings) e.number entry head rule one.shows.turn.steps.shows.table.table shown_then.shows placed
              (subst (λ (o : Option (Entry × BodyRule)). AnswersAsk e.number head o p (parts between)) answers taken.is) shown_then.keeps (facts_of (by_aim-quiet e head rule brings (quiet_same brings))).next i
              (row_told number one.number shelf x.state p begun brings e.number begun_read.turn.steps.shows.table.table one.shows.turn.steps.shows.table.table it.row one.keeps one.grows i (begun_told i told))));
          peer = stayed;
          linked = ap (λ (ps : List Peer). find (is_number n) ps) peers ∙ stayed_there;
          stays = refl;
          law = law_right is;
        }
      where
        placed : find (is_entry entry.exchange.number) p.flow.placed ≡ Some entry
        placed =
            ap₂ (λ (m : ℕ) (f : Exchanges). find (is_entry m) f.placed) (same_number entry.exchange.number e.number (find_passes (is_entry e.number) x.state.flow.placed entry on.there)) flow_same ∙ on.there

        goes_on : stays ≡ Some (stays_open head) → y ≡ record old { state = between; peers = staying n (stays_open head) (find (is_number n) old.peers) old.peers }
        goes_on is_it = subst (λ (o : Option Bool). GoesOnBehind o n (record old { state = between }) y) is_it it.answers.goes_on

    pub taken_head : is_wrong_head e head ≡ false → TakenHead shelf x y s k e head rule
    taken_head is =
        let answers : answer_to head (entry_of e.number p.flow) ≡ Some (entry, rule) = answer_is p flow_same false is in
        let one : IsAmidRead number x.state.cache.lives begun.next_instance none_leaves last_peers shelf p brings =
        brought number none_leaves last_peers shelf x.state p begun e.number entry e head begun_read begun_room here shown readable it.row given.row it.bounded in
        let goes : y ≡ record old { state = between; peers = staying n (stays_open head) (find (is_number n) old.peers) old.peers } =
        subst (λ (o : Option Bool). GoesOnBehind o n (record old { state = between }) y) (taken.stays_is ∙ ap (λ (o : Option (Entry × BodyRule)). stays_by head o) answers) it.answers.goes_on in
        let state : y.state ≡ between = ap (λ (z : Both). z.state) goes in
        record {
          entry = entry;
          beside = p;
          law = brings;
          number = one.number;
          peers = last_peers;
          at = at_head one.number p between one.shows it.row;
          row = it.row;
          brought = refl;
          forgotten = one.shows.forgotten;
          taken = subst (λ (q : Turn). TakesHead e.number entry.exchange entry.errand head rule p (parts q)) (sym state) (subst (λ (o : Option (Entry × BodyRule)). AnswersAsk e.number head o p (parts between)) answers taken.is);
          rest = subst (λ (q : Turn). KeepsRest (roomed_by head (Some (entry, rule)) p) q) (sym state) (subst (λ (o : Option (Entry × BodyRule)). KeepsRest (roomed_by head o p) between) answers taken.rest);
          begun = brings_is;
        }

    pub refused_head : is_wrong_head e head ≡ true → RefusedHead shelf x y s n k e head
    refused_head is =
        let none_answers : answer_to head (entry_of e.number p.flow) ≡ None = answer_is p flow_same true is in
        let one : IsAmidRead number x.state.cache.lives s.next_instance none_leaves x.peers shelf p beside = brought number none_leaves x.peers shelf x.state p s e.number entry e head shows.read may.room here shown readable it.row given.row it.bounded in
        let makes : Makes (bad_response n) (record old { state = between }) y =
        subst (λ (o : Option Bool). GoesOnBehind o n (record old { state = between }) y) (taken.stays_is ∙ ap (λ (o : Option (Entry × BodyRule)). stays_by head o) none_answers) it.answers.goes_on in
        let same : parts between ≡ parts p = subst (λ (o : Option (Entry × BodyRule)). AnswersAsk e.number head o p (parts between)) none_answers taken.is in
        let kept : KeepsRest p between = subst (λ (o : Option (Entry × BodyRule)). KeepsRest (roomed_by head o p) between) none_answers taken.rest in
        record {
          beside = p;
          law = beside;
          number = one.number;
          peers = old.peers;
          shows = one.shows;
          row = it.row;
          brought = refl;
          ends = makes.is ∙ ap (λ (q : Parts). let z : Sides = record { parts = q; peers = old.peers } in bad_response n z) same;
          rest = ap (λ (q : Turn). record q { seats = p.seats; flow = p.flow; cache = p.cache; refused = p.refused; is_astray = p.is_astray }) makes.rest ∙ kept;
          law_is = law_wrong is;
        }

  leads : (o : Option ℕ) → o ≡ Some e.number → (it : HeadCameFor o shelf n old y) → IsGivenHead o shelf n old y it → y.state.refused ≡ [] → y.state.is_astray ≡ false → HeadLeads number (is_wrong_head e head) x y s n k e head rule
  leads None is it given none straight = absurd (none_some e.number is)
  leads (Some m) is it given none straight = at m (some_is m e.number is) it given
    where
      at : (m : ℕ) → m ≡ e.number → (it : HeadCameFor (Some m) shelf n old y) → IsGivenBeside shelf n m old y it → HeadLeads number (is_wrong_head e head) x y s n k e head rule
      at m same = subst (λ (m : ℕ). (it : HeadCameFor (Some m) shelf n old y) → IsGivenBeside shelf n m old y it → HeadLeads number (is_wrong_head e head) x y s n k e head rule) (sym same) (λ it given. by_kind it given none straight (is_wrong_head e head) refl)

  pub comes : (it : HeadCame shelf n old y) → IsGivenHead (first_on n (parts x.state)) shelf n old y it → y.state.refused ≡ [] → y.state.is_astray ≡ false → HeadLeads number (is_wrong_head e head) x y s n k e head rule
  comes it given none straight = leads (first_on n (parts x.state)) (ap (λ (ns : List ℕ). slice_get ns 0) line_is) it given none straight

pub heads_come : RulesAreTheLaws → OwnAnswersAreTheLaws → PassedAnswersAreTheLaws → PartAnswersAreTheLaws → HeadsComeAsTheLaws
heads_come rules own passed part number shelf x y s n k e peer head rule left shows due read may it given none straight = comes rules own passed part number shelf x y s n k e peer head rule left shows due read may it given none straight
