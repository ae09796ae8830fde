-- A head that answers no ask of its kind is none: its connection is closed, and rows are cleared as attempts are lost, in the program as in the law.
use Rattle.std.proofs.Common.{◌≡◌, ◌≤◌, ◌<◌, ◌+◌, sym, subst, ap, ◌∙◌, ℕ, Bool, true, false, ◌&&◌, not, find, length, List, [], Option, Some, None, arith}
use Rattle.std.specs.Prelude.{count_by}
use Rattle.pp_answers_law.specs.Takes.{OwnAnswersAreTheLaws, PartAnswersAreTheLaws, PassedAnswersAreTheLaws, RulesAreTheLaws}
use Rattle.pp_cache_law.proofs.Alike.{room_of}
use Rattle.pp_cache_law.proofs.Numbers.{some_is}
use Rattle.pp_cache_law.specs.Outdated.{AreNamed, AreNoted}
use Rattle.pp_cache_law.specs.Tables.{ShowsTable}
use Rattle.pp_desk.specs.Closings.{Sides, with_parts}
use Rattle.pp_flow.specs.Changes.{entry_of}
use Rattle.pp_flow.specs.declared.entry.Entry.{Entry}
use Rattle.pp_flow.specs.declared.entry.Exchange.{Exchange as SeatExchange}
use Rattle.pp_framing.specs.declared.body.BodyRule.{BodyRule}
use Rattle.pp_head.specs.Response.{Response}
use Rattle.pp_law.specs.Connections.{front_of_line}
use Rattle.pp_law.specs.Lists.{Bytes}
use Rattle.pp_law.specs.OwnHeads.{is_wrong_head, key_of}
use Rattle.pp_law.specs.Responses.{bad_head, bad_response as law_bad_response, head_came}
use Rattle.pp_law.specs.State.{State, Conn, Entry as KeptEntry, Exchange}
use Rattle.pp_law.specs.Table.{rows}
use Rattle.pp_objects.specs.Instances.{is_row}
use Rattle.pp_origins.specs.Gots.{Both, HeadCame, HeadCameFor}
use Rattle.pp_origins.specs.Responses.{bad_answer, bad_by, bad_for, bad_on, bad_response, charged_by, has_brought_in}
use Rattle.pp_peers.specs.Peers.{is_number as is_peer}
use Rattle.pp_reads_law.proofs.Brings.{IsBeside, beside_brought}
use Rattle.pp_reads_law.proofs.HeadsCome.{RefusedHead, first_is, heads_come, refused_head}
use Rattle.pp_peers.specs.declared.peers.Peer.{Peer}
use Rattle.pp_pipe.specs.Reading.{Reading}
use Rattle.pp_reads_law.specs.Heads.{HeadIsDue, HeadIsRead, HeadIsRefused, HeadLeads, IsGivenBeside, IsGivenHead, MayAnswer, ShowsBoth, with_head}
use Rattle.pp_state.specs.Asking.{is_outstanding}
use Rattle.pp_state.specs.Ends.{Parts, ended, failed, parts}
use Rattle.pp_state.specs.Keys.{key_of as key_in_flow}
use Rattle.pp_state.specs.Lines.{first_on}
use Rattle.pp_state.specs.declared.state.State.{State as Turn}
use Rattle.pp_store.specs.Kept.{KeptMap}
use Rattle.pp_joints_law.proofs.ClearedLaw.{Cleared, Clears, clears_none, each_of, facts_of, when}
use Rattle.pp_joints_law.proofs.ClearedParts.{ClearsIn, clears_as, clears_stay, clears_then, fails, loses, stays_ended}
use Rattle.pp_joints_law.proofs.ClearedSides.{clears_closed}
use Rattle.pp_joints_law.proofs.ClearedSteps.{close_conn-clears, end_exchange-clears, fail-clears, lose_attempt-clears}
use Rattle.pp_joints_law.proofs.NotedBehind.{noted_behind, rows_show, tidy_shown}
use Rattle.pp_joints_law.proofs.NotedBeside.{IsAlike, IsEntered, beside_alike, brings}
use Rattle.pp_joints_law.specs.HeadsNote.{IsTied, RefusedHeadsTie, others_told}

-- ---- of the program

charges : (b : Bool) (number : ℕ) (e : SeatExchange) (p : Parts) → ClearsIn p (charged_by b number e p)
charges true number e p = loses e p
charges false number e p = clears_then p (failed e p) (ended number (failed e p)) (fails e p) (clears_stay (failed e p) (ended number (failed e p)) (stays_ended number (failed e p)))

pub bads_clear : (k : ℕ) (x : Sides) → ClearsIn x.parts (bad_response k x).parts
bads_clear k x = by (first_on k x.parts)
  where
    at : (b : Bool) (number : ℕ) (e : SeatExchange) → ClearsIn x.parts (bad_by b k number e x).parts
    at false number e = clears_closed k true x
    at true number e =
        let costs : Parts → Parts = charged_by (not e.headed && has_brought_in (find (is_peer k) x.peers)) number e in
        clears_then x.parts (costs x.parts) (bad_answer k number e x).parts (charges (not e.headed && has_brought_in (find (is_peer k) x.peers)) number e x.parts) (clears_closed k false (with_parts costs x))

    found : (number : ℕ) (o : Option Entry) → ClearsIn x.parts (bad_for k number o x).parts
    found number None = clears_closed k false x
    found number (Some e) = at (is_outstanding e) number e.exchange

    by : (o : Option ℕ) → ClearsIn x.parts (bad_on k o x).parts
    by None = clears_closed k false x
    by (Some number) = found number (entry_of number x.parts.flow)

-- ---- of the law

pub bad_response_clears : {o : State} (k : Conn) (s : State) → Clears o s → Clears o (law_bad_response k s)
unfolding law_bad_response
bad_response_clears k s h = each_of (front_of_line s k) (close_conn-clears false k s h) (λ e. close_conn-clears false k _ (end_exchange-clears e.number _ (fail-clears e s h)))

pub bad_head_clears : {o : State} (k : Conn) (s : State) → Clears o s → Clears o (bad_head k s)
unfolding bad_head
bad_head_clears k s h = when k.has_brought (each_of (front_of_line s k) (close_conn-clears false k s h) (λ e. close_conn-clears false k _ (lose_attempt-clears e s h))) (bad_response_clears k s h)

-- ---- both

module _ (shelf : KeptMap) (x y : Both) (s : State) (n : ℕ) (k : Conn) (e : Exchange) (head : Response) (given : RefusedHead shelf x y s n k e head) (number1 : ℕ → ℕ) (table : ShowsTable number1 y.state.cache (head_came k head s)) (few : length x.state.cache.outdated + rows s + 2 < 2048) (tied : IsTied x.state s) where
  abbrev p : Turn
  p = given.beside

  abbrev u : State
  u = given.law

  alike : IsAlike x.state p
  alike = beside_alike shelf (key_in_flow e.number x.state.flow) x.state p given.row

  entered : IsEntered (key_of e) s u
  entered = subst (λ (v : State). IsEntered (key_of e) s v) (sym given.brought) (brings e head s)

  beside : IsBeside s u
  beside = subst (λ (v : State). IsBeside s v) (sym given.brought) (beside_brought e head s)

  here : ShowsTable given.number p.cache u
  here = given.shows.turn.steps.shows.table.table

  law : Clears u (bad_head k u)
  law = bad_head_clears k u (clears_none u)

  turn : ClearsIn (parts p) (parts y.state)
  turn =
      let z : Sides = record { parts = parts p; peers = given.peers } in
      clears_as (parts p) (bad_response n z).parts (parts y.state) (ap (λ (w : Sides). w.parts) given.ends) (bads_clear n z)

  fits : (a b c d f g h : ℕ) → h + g ≤ a + c → a ≡ b → c ≡ d → d ≤ f + 1 → b + f + 2 < 2048 → h < 2048
  fits a b c d f g h less one two three four = omega (arith, less, one, two, three, four)

  room : length y.state.cache.outdated < 2048
  room =
      fits (length p.cache.outdated) (length x.state.cache.outdated) (count_by is_row p.cache.instances) (rows u) (rows s) (count_by is_row y.state.cache.instances) (length y.state.cache.outdated) turn.few (ap (λ (ns : List Bytes). length ns) alike.noted)
      (room_of given.number p.cache u here) entered.few few

  noted_then : AreNoted p.cache.outdated u.displaced u.entries
  noted_then =
      subst (λ (es : List KeptEntry). AreNoted p.cache.outdated u.displaced es) (sym beside.entries)
      (subst (λ (ks : List Bytes). AreNoted p.cache.outdated ks s.entries) (sym beside.displaced) (subst (λ (ns : List Bytes). AreNoted ns s.displaced s.entries) (sym alike.noted) tied.noted))

  named_then : AreNamed u.entries
  named_then = subst (λ (es : List KeptEntry). AreNamed es) (sym beside.entries) tied.named

  facts : Cleared u (bad_head k u).entries (bad_head k u).displaced (bad_head k u).instances (bad_head k u).forgotten (bad_head k u).is_evicting
  facts = facts_of law

  is_tied : IsTied y.state (head_came k head s)
  is_tied = subst (λ (v : State). IsTied y.state v) (sym given.law_is) (record {
    noted = noted_behind (parts p) (parts y.state) u (bad_head k u) (rows_show given.number p.cache u here) (rows_show number1 y.state.cache (bad_head k u) (subst (λ (v : State). ShowsTable number1 y.state.cache v) given.law_is table)) (tidy_shown given.number p.cache u here) law turn room
        named_then noted_then;
    named = facts.named named_then;
    leaves = record { forgotten = ap (λ (q : Turn). q.forgotten) given.rest ∙ given.shows.forgotten ∙ sym facts.forgotten_is };
  })

-- and eviction does not begin
pub refused_evicting : (shelf : KeptMap) (x y : Both) (s : State) (n : ℕ) (k : Conn) (e : Exchange) (head : Response) → RefusedHead shelf x y s n k e head → y.state.is_evicting ≡ x.state.is_evicting
refused_evicting shelf x y s n k e head given = ap (λ (q : Turn). q.is_evicting) given.rest ∙ (beside_alike shelf (key_in_flow e.number x.state.flow) x.state given.beside given.row).evicting

-- what stands beside the row of its key, where it is refused
pub refused_there : RulesAreTheLaws → OwnAnswersAreTheLaws → PassedAnswersAreTheLaws → PartAnswersAreTheLaws → (number : ℕ → ℕ) (shelf : KeptMap) (x y : Both) (s : State) (n : ℕ) (k : Conn) (e : Exchange) (peer : Peer) (head : Response) (rule : BodyRule) (left : Reading) → ShowsBoth number shelf x s → HeadIsDue x s n k e peer → HeadIsRead e head rule left
    → MayAnswer x.state s e head → (it : HeadCame shelf n (with_head n peer left x) y) → IsGivenHead (first_on n (parts x.state)) shelf n (with_head n peer left x) y it → y.state.refused ≡ [] → is_wrong_head e head ≡ true → RefusedHead shelf x y s n k e head
refused_there rules own passed part number shelf x y s n k e peer head rule left shows due read may it given none wrong =
    by (first_on n (parts x.state)) (first_is rules own passed part number shelf x y s n k e peer head rule left shows due read may) it given
  where
    at : (m : ℕ) → m ≡ e.number → (it : HeadCameFor (Some m) shelf n (with_head n peer left x) y) → IsGivenBeside shelf n m (with_head n peer left x) y it → RefusedHead shelf x y s n k e head
    at m same =
        subst (λ (m : ℕ). (it : HeadCameFor (Some m) shelf n (with_head n peer left x) y) → IsGivenBeside shelf n m (with_head n peer left x) y it → RefusedHead shelf x y s n k e head) (sym same)
        (λ it given. refused_head rules own passed part number shelf x y s n k e peer head rule left shows due read may it given none wrong)

    by : (o : Option ℕ) → o ≡ Some e.number → (it : HeadCameFor o shelf n (with_head n peer left x) y) → IsGivenHead o shelf n (with_head n peer left x) y it → RefusedHead shelf x y s n k e head
    by None is it given = absurd (cc is)
    by (Some m) is it given = at m (some_is m e.number is) it given

pub refused_heads_tie : RulesAreTheLaws → OwnAnswersAreTheLaws → PassedAnswersAreTheLaws → PartAnswersAreTheLaws → RefusedHeadsTie
refused_heads_tie rules own passed part number shelf x y s n k e peer head rule left shows due read may room it given none straight tied wrong =
    is_tied shelf x y s n k e head (refused_there rules own passed part number shelf x y s n k e peer head rule left shows due read may it given none wrong) leads.number leads.shows.steps.shows.table.table few tied
  where
    fewer : (a b m : ℕ) → a + b + (3 + m) < 2048 → a + b + 2 < 2048
    fewer a b m one = omega (arith, one)

    few : length x.state.cache.outdated + rows s + 2 < 2048
    few =
        subst (λ (m : ℕ). length x.state.cache.outdated + m + 2 < 2048) (room_of number x.state.cache s shows.read.turn.steps.shows.table.table)
        (fewer (length x.state.cache.outdated) (count_by is_row x.state.cache.instances) (others_told e head) room)

    leads : HeadIsRefused number x y s k head
    leads = subst (λ (b : Bool). HeadLeads number b x y s n k e head rule) wrong (heads_come rules own passed part number shelf x y s n k e peer head rule left shows due read may it given none straight)
