-- From one moment of a read to the next, behind a head: what is noted, and what has to leave memory, are the same in both.
use Rattle.std.proofs.Common.{◌≡◌, ◌≤◌, ◌<◌, ◌+◌, ◌⊎◌, inl, inr, refl, sym, subst, ap, ◌∙◌, ℕ, ◌-◌, Bool, true, false, find, length, min, List, [], Option, arith, le_refl, le_trans}
use Rattle.std.specs.Prelude.{count_by}
use Rattle.pp_answers_law.specs.Fills.{PartHeadsAreTheLaws}
use Rattle.pp_answers_law.specs.Takes.{OwnAnswersAreTheLaws, PartAnswersAreTheLaws, PassedAnswersAreTheLaws, RulesAreTheLaws}
use Rattle.pp_cache_law.specs.Outdated.{AreNamed, AreNoted}
use Rattle.pp_cache_law.specs.Tables.{ShowsChunk, ShowsTable}
use Rattle.pp_desk.specs.Closings.{Sides}
use Rattle.pp_framing.specs.Body.{Outcome, Done, Going, Bad as NoBody}
use Rattle.pp_framing.specs.Rules.{body_of}
use Rattle.pp_framing.specs.declared.body.BodyRule.{BodyRule}
use Rattle.pp_head.specs.Response.{Response}
use Rattle.pp_law.specs.Chunks.{trigger}
use Rattle.pp_law.specs.Connections.{on_conn}
use Rattle.pp_law.specs.Lists.{Bytes}
use Rattle.pp_law.specs.OwnHeads.{is_wrong_head}
use Rattle.pp_law.specs.Responses.{answer_with, bad_head, end_if_empty, finish, got, head_came, bring_row}
use Rattle.pp_law.specs.State.{State, Answer, Conn, Entry as KeptEntry, Exchange}
use Rattle.pp_obeys.proofs.Frames.{Frame}
use Rattle.pp_objects.specs.Instances.{is_row}
use Rattle.pp_origins.specs.Gots.{Both, IsStepOn, Makes, Remains, going_on, remaining, sides_of}
use Rattle.pp_origins.specs.Responses.{response_whole, bad_response}
use Rattle.pp_peers.specs.Peers.{is_number}
use Rattle.pp_peers.specs.declared.peers.Peer.{Peer}
use Rattle.pp_reads_law.proofs.Calm.{head_given}
use Rattle.pp_reads_law.proofs.EndsThere.{ends_there}
use Rattle.pp_reads_law.proofs.HeadsCome.{RefusedHead, TakenHead, heads_come}
use Rattle.pp_reads_law.proofs.StayReads.{head_stays, step_stays}
use Rattle.pp_reads_law.specs.Brings.{HeadRestsOn, IsBehindHead}
use Rattle.pp_reads_law.specs.Heads.{HeadIsTaken, HeadLeads, IsGivenHead, begun_by, with_head}
use Rattle.pp_reads_law.specs.Interims.{IsClearedTo}
use Rattle.pp_state.specs.Ends.{parts}
use Rattle.pp_state.specs.Keys.{key_of}
use Rattle.pp_state.specs.Lines.{first_on}
use Rattle.pp_state.specs.declared.state.State.{State as Turn}
use Rattle.pp_store.specs.Kept.{KeptMap}
use Rattle.pp_turns_law.specs.Sides.{ShowsSides}
use Rattle.pp_joints_law.proofs.BytesSteps.{head_on_turn, step_on}
use Rattle.pp_joints_law.proofs.ClearedLaw.{Cleared, Clears, clears_none, facts_of}
use Rattle.pp_joints_law.proofs.ClearedParts.{itself, ClearsIn, clears_as}
use Rattle.pp_joints_law.proofs.ClearedSteps.{finish-clears}
use Rattle.pp_joints_law.proofs.Evictions.{alike_still, few_in_both, lengths}
use Rattle.pp_joints_law.proofs.FewNames.{rows_note_few}
use Rattle.pp_joints_law.proofs.MomentsKept.{disk_by, framed_to}
use Rattle.pp_joints_law.proofs.NoMore.{no_more_are_used}
use Rattle.pp_joints_law.proofs.NotedBehind.{noted_still, rows_show, tidy_shown}
use Rattle.pp_joints_law.proofs.NotedCome.{head_few, heads_tie, taken_evicting, taken_there}
use Rattle.pp_joints_law.proofs.NotedRefused.{bads_clear, refused_evicting, refused_heads_tie, refused_there}
use Rattle.pp_joints_law.proofs.TiedEnds.{wholes_tie, wholes_few}
use Rattle.pp_joints_law.specs.DataTies.{EvictAlike, IsNoMore}
use Rattle.pp_joints_law.specs.HeadsNote.{IsTied, others_told}
use Rattle.pp_joints_law.specs.MomentsNote.{HasRoomFor, HeadsNoteOn, IsOnShelf, NotesAt}

-- ---- before it nothing but what precedes it is dropped

record IsAlike (s t : State) : Type 0 where
  entries : t.entries ≡ s.entries
  displaced : t.displaced ≡ s.displaced
  forgotten : t.forgotten ≡ s.forgotten
  evicting : t.is_evicting ≡ s.is_evicting
  chunks : t.chunks ≡ s.chunks

alike : (s : State) (n : ℕ) (k before : Conn) (t : State) → IsClearedTo s n k before t → IsAlike s t
unfolding on_conn
alike s n k before t (inl is) = subst (λ (u : State). IsAlike s u) (sym is.1) (record { entries = refl; displaced = refl; forgotten = refl; evicting = refl; chunks = refl })
alike s n k before t (inr is) = subst (λ (u : State). IsAlike s u) (sym is.1) (record { entries = refl; displaced = refl; forgotten = refl; evicting = refl; chunks = refl })

tied_then : (p q : Turn) (s t : State) → q ≡ p → IsAlike s t → IsTied p s → IsTied q t
tied_then p q s t same is tied = subst (λ (r : Turn). IsTied r t) (sym same) (record {
  noted = subst (λ (es : List KeptEntry). AreNoted p.cache.outdated t.displaced es) (sym is.entries) (subst (λ (ks : List Bytes). AreNoted p.cache.outdated ks s.entries) (sym is.displaced) tied.noted);
  named = subst (λ (es : List KeptEntry). AreNamed es) (sym is.entries) tied.named;
  leaves = record { forgotten = tied.leaves.forgotten ∙ sym is.forgotten };
})

-- ---- an empty body ends with it in the law

ends_clear : (k : Conn) (e : Exchange) (a : Answer) (s : State) → Clears s (end_if_empty k e a s)
unfolding end_if_empty
ends_clear k e a s = by (body_of a.rule []).outcome
  where
    by : (o : Outcome) → Clears s (elim o as (λ t. State) [ Done rest ↦ finish k e a s | Going ↦ s | NoBody ↦ s ])
    by (Done rest) = finish-clears k e a s (clears_none s)
    by Going = clears_none s
    by NoBody = clears_none s

no_more_then : (s t u : State) → IsNoMore s t → IsNoMore t u → IsNoMore s u
no_more_then s t u one two = record { evicting = two.evicting ∙ one.evicting; few = le_trans two.few one.few }

ends_no_more : (k : Conn) (e : Exchange) (a : Answer) (s : State) → IsNoMore s (end_if_empty k e a s)
unfolding end_if_empty
ends_no_more k e a s = by (body_of a.rule []).outcome
  where
    by : (o : Outcome) → IsNoMore s (elim o as (λ t. State) [ Done rest ↦ finish k e a s | Going ↦ s | NoBody ↦ s ])
    by (Done rest) = no_more_are_used.wholes k e a s
    by Going = record { evicting = refl; few = le_refl (length s.chunks) }
    by NoBody = record { evicting = refl; few = le_refl (length s.chunks) }

ends_now : (k : Conn) (e : Exchange) (a : Answer) (s : State) (over : Bytes) → (body_of a.rule []).outcome ≡ Done over → end_if_empty k e a s ≡ finish k e a s
unfolding end_if_empty
ends_now k e a s over is = ap (λ (o : Outcome). elim o as (λ t. State) [ Done rest ↦ finish k e a s | Going ↦ s | NoBody ↦ s ]) is

-- the program stands still meanwhile
tied_still : (p : Turn) (s t : State) (number other : ℕ → ℕ) → ShowsTable number p.cache s → ShowsTable other p.cache t → Clears s t → IsTied p s → IsTied p t
tied_still p s t number other before behind cleared tied =
    let facts : Cleared s t.entries t.displaced t.instances t.forgotten t.is_evicting = facts_of cleared in
    record {
      noted = noted_still (parts p) (parts p) s t (rows_show number p.cache s before) (rows_show other p.cache t behind) (tidy_shown number p.cache s before) cleared (itself (parts p)) tied.named tied.noted;
      named = facts.named tied.named;
      leaves = record { forgotten = tied.leaves.forgotten ∙ sym facts.forgotten_is };
    }

-- ---- how many names it adds

-- those that are noted, with one for each row
abbrev pub names_in : Both → ℕ
names_in x = length x.state.cache.outdated + count_by is_row x.state.cache.instances

-- the law refuses it, or takes it
pub record HeadAdds (k : Conn) (e : Exchange) (head : Response) (rule : BodyRule) (then : State) (x next : Both) (t : State) : Type 0 where
  pub few : names_in next ≤ names_in x + (3 + others_told e head)
  pub law : (t ≡ bad_head k (bring_row e head then)) ⊎ ((is_wrong_head e head ≡ false) × (t ≡ end_if_empty k e (answer_with e head rule) (begun_by k e head rule then)))

-- ---- all of it

room_then : (m a b c : ℕ) → a ≤ b + c + (3 + m) → b + c + (3 + m) < 2048 → a < 2048
room_then m a b c one two = omega (arith, one, two)

module _ (rules : RulesAreTheLaws) (own : OwnAnswersAreTheLaws) (passed : PassedAnswersAreTheLaws) (part : PartAnswersAreTheLaws) (part_heads : PartHeadsAreTheLaws) (name : Bytes) (shelf : KeptMap) (n : ℕ) (x : Both) (s : State) (bytes : Bytes) (next : Both) (t : State) (rest : Bytes) (number : ℕ → ℕ) (it : IsBehindHead name shelf n x s bytes next t rest)
    (rests : HeadRestsOn shelf n it.head s it.exchange bytes it.behind it.there.begin it.there.then it.there.before it.there.peer it.it) (calm : next.state.is_astray ≡ false) (shows : ShowsSides number name (sides_of next) t) (room : HasRoomFor (3 + others_told it.exchange it.it.head) x) (at : NotesAt shelf x s) where
  abbrev begin : Both
  begin = it.there.begin

  abbrev then : State
  then = it.there.then

  abbrev before : Conn
  before = it.there.before

  abbrev e : Exchange
  e = it.exchange

  abbrev head : Response
  head = it.it.head

  abbrev fed : Both
  fed = with_head n it.there.peer it.it.left begin

  abbrev a : Answer
  a = answer_with e head it.it.rule

  abbrev begun : State
  begun = begun_by before e head it.it.rule then

  is_alike : IsAlike s then
  is_alike = alike s n it.conn before then it.there.stands

  first : IsTied begin.state then
  first = tied_then x.state begin.state s then it.there.state is_alike at.tied

  -- ---- of the program

  head_calm : it.head.state.is_astray ≡ false
  head_calm = by it.then
    where
      by : (next ≡ it.head) ⊎ ((after : Option Remains) × IsStepOn (going_on (find (is_number n) it.head.peers)) shelf n (remaining it.it.rest []) it.head next after) → it.head.state.is_astray ≡ false
      by (inl same) = ap (λ (z : Both). z.state.is_astray) (sym same) ∙ calm
      by (inr step) = (step_stays (going_on (find (is_number n) it.head.peers)) shelf n (remaining it.it.rest []) it.head next step.0 step.1).astray calm

  head_set : it.head.state.trigger ≡ x.state.trigger
  head_set = ap (λ (p : Turn). p.trigger) (head_on_turn shelf n fed it.head it.it.came).set ∙ ap (λ (p : Turn). p.trigger) it.there.state

  next_set : next.state.trigger ≡ x.state.trigger
  next_set = by it.then ∙ head_set
    where
      by : (next ≡ it.head) ⊎ ((after : Option Remains) × IsStepOn (going_on (find (is_number n) it.head.peers)) shelf n (remaining it.it.rest []) it.head next after) → next.state.trigger ≡ it.head.state.trigger
      by (inl same) = ap (λ (z : Both). z.state.trigger) same
      by (inr step) = ap (λ (p : Turn). p.trigger) (step_on (going_on (find (is_number n) it.head.peers)) shelf n (remaining it.it.rest []) it.head next step.0 step.1).set

  next_floor : next.state.floor ≡ x.state.floor
  next_floor = by it.then ∙ ap (λ (p : Turn). p.floor) (head_on_turn shelf n fed it.head it.it.came).set ∙ ap (λ (p : Turn). p.floor) it.there.state
    where
      by : (next ≡ it.head) ⊎ ((after : Option Remains) × IsStepOn (going_on (find (is_number n) it.head.peers)) shelf n (remaining it.it.rest []) it.head next after) → next.state.floor ≡ it.head.state.floor
      by (inl same) = ap (λ (z : Both). z.state.floor) same
      by (inr step) = ap (λ (p : Turn). p.floor) (step_on (going_on (find (is_number n) it.head.peers)) shelf n (remaining it.it.rest []) it.head next step.0 step.1).set

  given : IsGivenHead (first_on n (parts begin.state)) shelf n fed it.head it.it.came
  given = head_given (first_on n (parts begin.state)) shelf n fed it.head it.it.came head_calm

  none : it.head.state.refused ≡ []
  none = (head_stays shelf n fed it.head it.it.came).refused head_calm it.there.shows.read.turn.steps.refused

  -- the places that it names
  abbrev others : ℕ
  others = others_told e head

  room_begin : length begin.state.cache.outdated + count_by is_row begin.state.cache.instances + (3 + others) < 2048
  room_begin = subst (λ (p : Turn). length p.cache.outdated + count_by is_row p.cache.instances + (3 + others) < 2048) (sym it.there.state) room

  -- ---- of the law

  law_is : got (length bytes) n bytes s ≡ got it.it.less n it.it.rest t
  law_is = it.it.law ∙ ap (λ (u : State). got it.it.less n it.it.rest u) (sym it.state)

  same_trigger : trigger t ≡ trigger s
  same_trigger = ap (λ (f : Frame). min f.settings.high (f.settings.critical - 31)) (framed_to (length bytes) it.it.less n bytes it.it.rest s t law_is)

  disk : IsOnShelf shelf t
  disk = disk_by shelf (length bytes) it.it.less n bytes it.it.rest s t law_is at.disk

  -- ---- both

  evicts : next.state.is_evicting ≡ begin.state.is_evicting → IsNoMore then t → EvictAlike next.state t
  evicts mark no_more =
      alike_still x.state next.state s t (record {
        turn = mark ∙ ap (λ (p : Turn). p.is_evicting) it.there.state;
        law = no_more.evicting ∙ is_alike.evicting;
        trigger = next_set;
        floor = next_floor;
        few =
            few_in_both (length next.state.cache.chunks) (length t.chunks) (length then.chunks) (length x.state.cache.chunks) (lengths (ShowsChunk number next.state.cache) next.state.cache.chunks t.chunks shows.steps.shows.table.table.chunks) no_more.few
            (ap (λ (p : Turn). length p.cache.chunks) (sym it.there.state)
            ∙ lengths (ShowsChunk it.number begin.state.cache) begin.state.cache.chunks then.chunks it.there.shows.read.turn.steps.shows.table.table.chunks);
      }) at.evict

  notes_with : IsTied next.state t → EvictAlike next.state t → NotesAt shelf next t
  notes_with tied evict = record { tied = tied; evict = evict; set = next_set ∙ at.set ∙ sym same_trigger; disk = disk }

  leads : HeadLeads it.number (is_wrong_head e head) begin it.head then n before e head it.it.rule
  leads = heads_come rules own passed part it.number shelf begin it.head then n before e it.there.peer head it.it.rule it.it.left it.there.shows it.there.due it.it.read rests.may it.it.came given none head_calm

  -- it is refused: the connection is closed, and no step is taken any more
  wrong : is_wrong_head e head ≡ true → NotesAt shelf next t
  wrong is = notes_with (by it.ends) (evicts (mark it.ends) no_more)
    where
      tied : IsTied it.head.state (head_came before head then)
      tied = refused_heads_tie rules own passed part it.number shelf begin it.head then n before e it.there.peer head it.it.rule it.it.left it.there.shows it.there.due it.it.read rests.may room_begin it.it.came given none head_calm first is

      by : (next ≡ it.head) ⊎ ((is_wrong_head e head ≡ false) × ((body_of it.it.rule []).outcome ≡ Done [])) → IsTied next.state t
      by (inl same) = subst (λ (z : Both). IsTied z.state t) (sym same) (subst (λ (u : State). IsTied it.head.state u) (sym it.state) tied)
      by (inr right) = absurd (let both : true ≡ false = sym is ∙ right.0 in cc both)

      given_refused : RefusedHead shelf begin it.head then n before e head
      given_refused = refused_there rules own passed part it.number shelf begin it.head then n before e it.there.peer head it.it.rule it.it.left it.there.shows it.there.due it.it.read rests.may it.it.came given none is

      no_more : IsNoMore then t
      no_more = subst (λ (u : State). IsNoMore then u) (sym (it.state ∙ given_refused.law_is ∙ ap (λ (u : State). bad_head before u) given_refused.brought)) (no_more_are_used.refused before e head then)

      mark : (next ≡ it.head) ⊎ ((is_wrong_head e head ≡ false) × ((body_of it.it.rule []).outcome ≡ Done [])) → next.state.is_evicting ≡ begin.state.is_evicting
      mark (inl same) = ap (λ (z : Both). z.state.is_evicting) same ∙ refused_evicting shelf begin it.head then n before e head given_refused
      mark (inr right) = absurd (let both : true ≡ false = sym is ∙ right.0 in cc both)

  -- it is taken
  right : is_wrong_head e head ≡ false → NotesAt shelf next t
  right is = notes_with (by it.ends it.then) (evicts (mark it.ends it.then) no_more)
    where
      taken : HeadIsTaken it.number begin it.head then n before e head it.it.rule
      taken = subst (λ (b : Bool). HeadLeads it.number b begin it.head then n before e head it.it.rule) is leads

      tied : IsTied it.head.state begun
      tied = heads_tie rules own passed part part_heads it.number shelf begin it.head then n before e it.there.peer head it.it.rule it.it.left it.there.shows it.there.due it.it.read rests.may room_begin it.it.came given none head_calm first is

      there : TakenHead shelf begin it.head then before e head it.it.rule
      there = taken_there rules own passed part it.number shelf begin it.head then n before e it.there.peer head it.it.rule it.it.left it.there.shows it.there.due it.it.read rests.may it.it.came given none is

      room_head : length it.head.state.cache.outdated + count_by is_row it.head.state.cache.instances < 2048
      room_head =
          room_then others (length it.head.state.cache.outdated + count_by is_row it.head.state.cache.instances) (length begin.state.cache.outdated) (count_by is_row begin.state.cache.instances)
          (head_few shelf begin it.head then before e head it.it.rule there) room_begin

      no_more : IsNoMore then t
      no_more = subst (λ (u : State). IsNoMore then u) (sym (it.state ∙ taken.law)) (no_more_then then begun (end_if_empty before e a begun) (no_more_are_used.taken before e head it.it.rule then) (ends_no_more before e a begun))

      head_mark : it.head.state.is_evicting ≡ begin.state.is_evicting
      head_mark = taken_evicting shelf begin it.head then before e head it.it.rule there

      mark : (next ≡ it.head) ⊎ ((is_wrong_head e head ≡ false) × ((body_of it.it.rule []).outcome ≡ Done [])) → (next ≡ it.head) ⊎ ((after : Option Remains) × IsStepOn (going_on (find (is_number n) it.head.peers)) shelf n (remaining it.it.rest []) it.head next after) → next.state.is_evicting ≡ begin.state.is_evicting
      mark (inl same) step = ap (λ (z : Both). z.state.is_evicting) same ∙ head_mark
      mark (inr over) (inl same) = ap (λ (z : Both). z.state.is_evicting) same ∙ head_mark
      mark (inr over) (inr step) =
          let whole : (fed : List Peer) × Makes (response_whole n) (record it.head { peers = fed }) next =
          (ends_there it.number shelf begin it.head then n before e it.there.peer head it.it.rule it.there.shows.may it.there.due taken (rests.end is) next [] it.it.rest step.0 over.1 step.1).1 in
          ap (λ (p : Turn). p.is_evicting) whole.1.rest ∙ head_mark

      -- nothing follows it yet
      stays : next ≡ it.head → IsTied next.state t
      stays same =
          subst (λ (z : Both). IsTied z.state t) (sym same)
          (subst (λ (u : State). IsTied it.head.state u) (sym (it.state ∙ taken.law))
          (tied_still it.head.state begun (end_if_empty before e a begun) taken.number number taken.shows.shows.table.table
          (subst (λ (z : Both). ShowsTable number z.state.cache (end_if_empty before e a begun)) same (subst (λ (u : State). ShowsTable number next.state.cache u) (it.state ∙ taken.law) shows.steps.shows.table.table)) (ends_clear before e a begun) tied))

      -- its end follows
      ends : (body_of it.it.rule []).outcome ≡ Done [] → (after : Option Remains) → IsStepOn (going_on (find (is_number n) it.head.peers)) shelf n (remaining it.it.rest []) it.head next after → IsTied next.state t
      ends over after step =
          let whole : (fed : List Peer) × Makes (response_whole n) (record it.head { peers = fed }) next =
          (ends_there it.number shelf begin it.head then n before e it.there.peer head it.it.rule it.there.shows.may it.there.due taken (rests.end is) next [] it.it.rest after over step).1 in
          let law : t ≡ finish before e a begun = it.state ∙ taken.law ∙ ends_now before e a begun [] over in
          subst (λ (u : State). IsTied next.state u) (sym law)
          (wholes_tie taken.number number n before e a (record it.head { peers = whole.0 }) next begun taken.shows.shows.table.table (subst (λ (u : State). ShowsTable number next.state.cache u) law shows.steps.shows.table.table) whole.1 room_head tied)

      by : (next ≡ it.head) ⊎ ((is_wrong_head e head ≡ false) × ((body_of it.it.rule []).outcome ≡ Done [])) → (next ≡ it.head) ⊎ ((after : Option Remains) × IsStepOn (going_on (find (is_number n) it.head.peers)) shelf n (remaining it.it.rest []) it.head next after) → IsTied next.state t
      by (inl same) step = stays same
      by (inr over) (inl same) = stays same
      by (inr over) (inr step) = ends over.1 step.0 step.1

  notes_on : NotesAt shelf next t
  notes_on = by (is_wrong_head e head) refl
    where
      by : (b : Bool) → is_wrong_head e head ≡ b → NotesAt shelf next t
      by true is = wrong is
      by false is = right is

  -- ---- how many names it adds, and what becomes of its connection

  few_begin : (m : ℕ) → m ≤ length begin.state.cache.outdated + count_by is_row begin.state.cache.instances + (3 + others) → m ≤ names_in x + (3 + others)
  few_begin m few = subst (λ (p : Turn). m ≤ length p.cache.outdated + count_by is_row p.cache.instances + (3 + others)) it.there.state few

  adds_refused : is_wrong_head e head ≡ true → HeadAdds before e head it.it.rule then x next t
  adds_refused is = record { few = by it.ends; law = inl (it.state ∙ given_refused.law_is ∙ ap (λ (u : State). bad_head before u) given_refused.brought) }
    where
      given_refused : RefusedHead shelf begin it.head then n before e head
      given_refused = refused_there rules own passed part it.number shelf begin it.head then n before e it.there.peer head it.it.rule it.it.left it.there.shows it.there.due it.it.read rests.may it.it.came given none is

      z : Sides
      z = record { parts = parts given_refused.beside; peers = given_refused.peers }

      turn : ClearsIn (parts given_refused.beside) (parts it.head.state)
      turn = clears_as (parts given_refused.beside) (bad_response n z).parts (parts it.head.state) (ap (λ (w : Sides). w.parts) given_refused.ends) (bads_clear n z)

      few_head : names_in it.head ≤ names_in x + (3 + others)
      few_head =
          few_begin (names_in it.head)
          (both others (names_in it.head) (length given_refused.beside.cache.outdated + count_by is_row given_refused.beside.cache.instances) (length begin.state.cache.outdated + count_by is_row begin.state.cache.instances) turn.few
          (rows_note_few shelf (key_of e.number begin.state.flow) begin.state given_refused.beside given_refused.row))
        where
          both : (m a b c : ℕ) → a ≤ b → b ≤ c + 1 → a ≤ c + (3 + m)
          both m a b c one two = omega (arith, one, two)

      by : (next ≡ it.head) ⊎ ((is_wrong_head e head ≡ false) × ((body_of it.it.rule []).outcome ≡ Done [])) → names_in next ≤ names_in x + (3 + others)
      by (inl same) = subst (λ (z : Both). names_in z ≤ names_in x + (3 + others)) (sym same) few_head
      by (inr right) = absurd (let both : true ≡ false = sym is ∙ right.0 in cc both)

  adds_taken : is_wrong_head e head ≡ false → HeadAdds before e head it.it.rule then x next t
  adds_taken is = record { few = by it.ends it.then; law = inr (is, it.state ∙ taken.law) }
    where
      taken : HeadIsTaken it.number begin it.head then n before e head it.it.rule
      taken = subst (λ (b : Bool). HeadLeads it.number b begin it.head then n before e head it.it.rule) is leads

      there : TakenHead shelf begin it.head then before e head it.it.rule
      there = taken_there rules own passed part it.number shelf begin it.head then n before e it.there.peer head it.it.rule it.it.left it.there.shows it.there.due it.it.read rests.may it.it.came given none is

      few_head : names_in it.head ≤ names_in x + (3 + others)
      few_head =
          few_begin (names_in it.head)
          (head_few shelf begin it.head then before e head it.it.rule there)

      stays : next ≡ it.head → names_in next ≤ names_in x + (3 + others)
      stays same = subst (λ (z : Both). names_in z ≤ names_in x + (3 + others)) (sym same) few_head

      by : (next ≡ it.head) ⊎ ((is_wrong_head e head ≡ false) × ((body_of it.it.rule []).outcome ≡ Done [])) → (next ≡ it.head) ⊎ ((after : Option Remains) × IsStepOn (going_on (find (is_number n) it.head.peers)) shelf n (remaining it.it.rest []) it.head next after) → names_in next ≤ names_in x + (3 + others)
      by (inl same) step = stays same
      by (inr over) (inl same) = stays same
      by (inr over) (inr step) =
          let whole : (fed : List Peer) × Makes (response_whole n) (record it.head { peers = fed }) next =
          (ends_there it.number shelf begin it.head then n before e it.there.peer head it.it.rule it.there.shows.may it.there.due taken (rests.end is) next [] it.it.rest step.0 over.1 step.1).1 in
          le_trans (wholes_few n (record it.head { peers = whole.0 }) next whole.1) few_head

  adds : HeadAdds before e head it.it.rule then x next t
  adds = by (is_wrong_head e head) refl
    where
      by : (b : Bool) → is_wrong_head e head ≡ b → HeadAdds before e head it.it.rule then x next t
      by true is = adds_refused is
      by false is = adds_taken is

pub heads_note_on : RulesAreTheLaws → OwnAnswersAreTheLaws → PassedAnswersAreTheLaws → PartAnswersAreTheLaws → PartHeadsAreTheLaws → HeadsNoteOn
heads_note_on rules own passed part part_heads name shelf n x s bytes next t rest number it rests calm shows room at = notes_on rules own passed part part_heads name shelf n x s bytes next t rest number it rests calm shows room at

pub head_adds : RulesAreTheLaws → OwnAnswersAreTheLaws → PassedAnswersAreTheLaws → PartAnswersAreTheLaws → PartHeadsAreTheLaws → (name : Bytes) (shelf : KeptMap) (n : ℕ) (x : Both) (s : State) (bytes : Bytes) (next : Both) (t : State) (rest : Bytes) (number : ℕ → ℕ) → (it : IsBehindHead name shelf n x s bytes next t rest)
    → HeadRestsOn shelf n it.head s it.exchange bytes it.behind it.there.begin it.there.then it.there.before it.there.peer it.it → next.state.is_astray ≡ false → ShowsSides number name (sides_of next) t → HasRoomFor (3 + others_told it.exchange it.it.head) x → NotesAt shelf x s
    → HeadAdds it.there.before it.exchange it.it.head it.it.rule it.there.then x next t
head_adds rules own passed part part_heads name shelf n x s bytes next t rest number it rests calm shows room at = adds rules own passed part part_heads name shelf n x s bytes next t rest number it rests calm shows room at
