-- A head that is taken on a connection, beside the row that is kept of its key: which entries stand no more is noted behind it, and what has to
-- leave memory is the same in both.
use Rattle.std.proofs.Common.{◌≡◌, ◌≤◌, ◌<◌, ◌+◌, refl, sym, subst, ap, ◌∙◌, ℕ, Bool, true, false, find, length, List, [], ◌∷◌, Option, Some, None, arith}
use Rattle.std.specs.Prelude.{count_by}
use Rattle.pp_answers.specs.FinalHeads.{FillsHead, PassesHead, TakesAim, counted, roomed_for, version_in}
use Rattle.pp_answers.specs.ThroughHeads.{invalidates}
use Rattle.pp_answers_law.proofs.Dropped.{there_too}
use Rattle.pp_answers_law.proofs.Keyed.{each_read, keyed, passed_straight}
use Rattle.pp_answers_law.specs.Fills.{PartHeadsAreTheLaws}
use Rattle.pp_answers_law.specs.Takes.{MayPass, OwnAnswersAreTheLaws, PartAnswersAreTheLaws, PassedAnswersAreTheLaws, RulesAreTheLaws}
use Rattle.pp_cache.specs.Memory.{Memory}
use Rattle.pp_cache_law.proofs.Alike.{room_of}
use Rattle.pp_cache_law.proofs.Numbers.{some_is}
use Rattle.pp_cache_law.specs.Outdated.{AreNamed, AreNoted}
use Rattle.pp_cache_law.specs.Tables.{ShowsTable}
use Rattle.pp_flow.specs.declared.entry.Aim.{Aim as EntryAim}
use Rattle.pp_flow.specs.declared.entry.Aim.TheVariants.{Own as OfItself, Hole, Pass as AsPassed}
use Rattle.pp_flow.specs.declared.entry.Entry.{Entry}
use Rattle.pp_flow_law.specs.Tables.{none_leaves}
use Rattle.pp_framing.specs.declared.body.BodyRule.{BodyRule}
use Rattle.pp_head.specs.Response.{Response}
use Rattle.pp_heads_law.proofs.Ruled.{invalidated as invalidates_same}
use Rattle.pp_law.specs.Connections.{is_client, on_conn}
use Rattle.pp_law.specs.Lists.{Bytes}
use Rattle.pp_law.specs.OwnHeads.{filling_head, is_wrong_head, key_of, own_head, relay_head}
use Rattle.pp_law.specs.Responses.{answer_with, answered_by, by_aim}
use Rattle.pp_law.specs.Stages.{is_through}
use Rattle.pp_law.specs.State.{State, Aim, Through, Own, Filling, Client, Conn, Entry as KeptEntry, Exchange}
use Rattle.pp_law.specs.Table.{clear, row, rows}
use Rattle.pp_law.specs.ThroughHeads.{clear_each, clear_named, disproved as law_disproved, invalidated as law_invalidated, invalidates as law_invalidates, is_same_host, key_named, places_named as law_places, through_head}
use Rattle.pp_objects.specs.Instances.{is_row}
use Rattle.pp_origins.specs.Gots.{Both, HeadCame, HeadCameFor}
use Rattle.pp_reads_law.proofs.Brings.{IsBeside, beside_brought}
use Rattle.pp_reads_law.proofs.HeadsCome.{TakenHead, first_is, heads_come, taken_head}
use Rattle.pp_reads_law.proofs.Stayed.{Stay}
use Rattle.pp_reads_law.proofs.StillAnswers.{counts, takes_part}
use Rattle.pp_peers.specs.declared.peers.Peer.{Peer}
use Rattle.pp_pipe.specs.Reading.{Reading}
use Rattle.pp_reads_law.specs.Heads.{HeadIsDue, HeadIsRead, HeadIsTaken, HeadLeads, IsGivenBeside, IsGivenHead, MayAnswer, ShowsBoth, begun_by, with_head}
use Rattle.pp_reads_law.specs.Rows.{MayMakeRoom}
use Rattle.pp_seats_law.specs.Exchanges.{ShowsExchange}
use Rattle.pp_seats_law.specs.Fates.{aim_of}
use Rattle.pp_state.specs.Ends.{Parts, parts}
use Rattle.pp_state.specs.Keys.{key_of as key_in_flow}
use Rattle.pp_state.specs.Lines.{first_on}
use Rattle.pp_state.specs.declared.state.State.{State as Turn}
use Rattle.pp_states_law.proofs.Charged.{same_entry}
use Rattle.pp_store.specs.Kept.{KeptMap}
use Rattle.pp_target.specs.Key.{Key, text_of}
use Rattle.pp_valid.specs.declared.version.Version.{Version}
use Rattle.pp_joints_law.proofs.FewNames.{heads_note_few, rows_note_few}
use Rattle.pp_joints_law.proofs.NotedBeside.{IsAlike, IsEntered, beside_alike, brings, roomed_evicting}
use Rattle.pp_joints_law.proofs.NotedHeads.{SameEntries, own_notes}
use Rattle.pp_joints_law.proofs.NotedParts.{filling_notes}
use Rattle.pp_joints_law.proofs.NotedPlaces.{naming_notes}
use Rattle.pp_joints_law.proofs.NotedRoom.{Left, cleared_left, filling_heads_forget, left_self, left_then, own_heads_forget, relayed_left}
use Rattle.pp_joints_law.specs.HeadsNote.{HeadsTie, IsTied, LeavesAsTheLaw, MayNoteMore, others_in, others_named, others_told}

-- ---- of one that is passed nothing leaves memory

named_left : (e : Exchange) (text : Bytes) (s : State) → Left s (clear_named e.key text s)
unfolding clear_named
named_left e text s = by (key_named e.key text)
  where
    at : (b : Bool) (key : Bytes) → Left s (elim b as (λ t. State) [ true ↦ clear key s | false ↦ s ])
    at true key = cleared_left key s
    at false key = left_self s

    by : (o : Option Key) → Left s (elim o as (λ t. State) [ None ↦ s | Some named ↦ elim (is_same_host named e.key) as (λ t. State) [ true ↦ clear (text_of named) s | false ↦ s ] ])
    by None = left_self s
    by (Some named) = at (is_same_host named e.key) (text_of named)

each_left : (e : Exchange) (texts : List Bytes) (s : State) → Left s (clear_each e.key texts s)
unfolding clear_each
each_left e [] s = left_self s
each_left e (text ∷ texts) s = left_then s (clear_named e.key text s) (clear_each e.key texts (clear_named e.key text s)) (named_left e text s) (each_left e texts (clear_named e.key text s))

invalidated_left : (e : Exchange) (head : Response) (s : State) → Left s (law_invalidated e head s)
unfolding law_invalidated
invalidated_left e head s = by (law_invalidates e head)
  where
    by : (b : Bool) → Left s (elim b as (λ t. State) [ true ↦ clear_each e.key (law_places head) (clear (key_of e) s) | false ↦ s ])
    by true = left_then s (clear (key_of e) s) (clear_each e.key (law_places head) (clear (key_of e) s)) (cleared_left (key_of e) s) (each_left e (law_places head) (clear (key_of e) s))
    by false = left_self s

either_left : (b : Bool) (key : Bytes) (s : State) → Left s (elim b as (λ t. State) [ true ↦ clear key s | false ↦ s ])
either_left true key s = cleared_left key s
either_left false key s = left_self s

disproved_left : (e : Exchange) (head : Response) (s : State) → Left s (law_disproved e head s)
unfolding law_disproved
disproved_left e head s = either_left _ (key_of e) s

through_left : (e : Exchange) (head : Response) (rule : BodyRule) (s : State) → Left s (through_head e head rule s)
unfolding through_head
through_left e head rule s =
    let one : State = law_invalidated e head s in
    let two : State = law_disproved e head one in
    left_then s one (relay_head e head rule two) (invalidated_left e head s) (left_then one two (relay_head e head rule two) (disproved_left e head one) (relayed_left e head rule two))

-- ---- all of it

abbrev aimed : Exchange → Response → BodyRule → State → Aim → State
aimed e head rule s aim = elim aim as (λ t. State) [ Through ↦ through_head e head rule s | Own ↦ own_head e head rule s | Filling v from to ↦ filling_head e head rule s ]

aimed_is : (e : Exchange) (head : Response) (rule : BodyRule) (s : State) → by_aim e head rule s ≡ aimed e head rule s e.aim
unfolding by_aim
aimed_is e head rule s = refl

conn_same : (n : ℕ) (f : Conn → Conn) (s : State) → SameEntries s (on_conn n f s)
unfolding on_conn
conn_same n f s = record { entries = refl; displaced = refl }

conn_rows : (n : ℕ) (f : Conn → Conn) (s : State) → rows (on_conn n f s) ≡ rows s
unfolding on_conn
conn_rows n f s = refl

conn_room : (n : ℕ) (f : Conn → Conn) (s : State) → MayMakeRoom s → MayMakeRoom (on_conn n f s)
unfolding on_conn
conn_room n f s room full = let way = room full in record { row = way.row; idle = way.idle; may = record { new = way.may.new; few = way.may.few; short = way.may.short } }

conn_clients : (n : ℕ) (f : Conn → Conn) (s : State) → (on_conn n f s).clients ≡ s.clients
unfolding on_conn
conn_clients n f s = refl

through_so : (e : Exchange) → e.aim ≡ Through → is_through e ≡ true
through_so e is = ap (λ (aim : Aim). elim aim as (λ u. Bool) [ Through ↦ true | Own ↦ false | Filling v from to ↦ false ]) is

module _ (shelf : KeptMap) (x y : Both) (s : State) (k : Conn) (e : Exchange) (head : Response) (rule : BodyRule) (given : TakenHead shelf x y s k e head rule) where
  abbrev begun : State
  begun = on_conn k.number (answered_by (answer_with e head rule)) s

  abbrev p : Turn
  p = given.beside

  abbrev u : State
  u = given.law

  abbrev entry : Entry
  entry = given.entry

  abbrev between : Parts
  between = given.taken.between

  abbrev name : Bytes
  name = s.settings.name

  alike : IsAlike x.state p
  alike = beside_alike shelf (key_in_flow e.number x.state.flow) x.state p given.row

  entered : IsEntered (key_of e) begun u
  entered = subst (λ (v : State). IsEntered (key_of e) begun v) (sym given.brought) (brings e head begun)

  beside : IsBeside begun u
  beside = subst (λ (v : State). IsBeside begun v) (sym given.brought) (beside_brought e head begun)

  entries : u.entries ≡ s.entries
  entries = beside.entries ∙ (conn_same k.number (answered_by (answer_with e head rule)) s).entries

  displaced : u.displaced ≡ s.displaced
  displaced = beside.displaced ∙ (conn_same k.number (answered_by (answer_with e head rule)) s).displaced

  clients : u.clients ≡ s.clients
  clients = beside.clients ∙ conn_clients k.number (answered_by (answer_with e head rule)) s

  shown : ShowsExchange given.number entry e
  shown = same_entry given.number name none_leaves given.peers (parts p) u given.at.shows e.number entry e (there_too given.number name none_leaves given.peers (parts p) u given.at.shows e.number entry e given.at.answered)

  -- its row, a name or two of its key, and the places that it names
  pub head_few : length y.state.cache.outdated + count_by is_row y.state.cache.instances ≤ length x.state.cache.outdated + count_by is_row x.state.cache.instances + (3 + others_told e head)
  head_few =
      few_all (others_told e head) (length y.state.cache.outdated + count_by is_row y.state.cache.instances) (length p.cache.outdated + count_by is_row p.cache.instances) (length x.state.cache.outdated + count_by is_row x.state.cache.instances)
      (others_in entry.exchange.aim entry.errand.is_safe head) (heads_note_few e.number head (Some (entry, rule)) p (parts y.state) given.taken) (rows_note_few shelf (key_in_flow e.number x.state.flow) x.state p given.row) others
    where
      few_all : (m a b c d : ℕ) → a ≤ b + (d + 2) → b ≤ c + 1 → d ≤ m → a ≤ c + (3 + m)
      few_all m a b c d one two three = omega (arith, one, two, three)

      others_of : (a : EntryAim) → others_in a entry.errand.is_safe head ≤ others_named (invalidates entry.errand.is_safe head) head
      others_of OfItself = omega arith
      others_of (Hole v from to) = omega arith
      others_of AsPassed = omega arith

      others : others_in entry.exchange.aim entry.errand.is_safe head ≤ others_told e head
      others = subst (λ (b : Bool). others_in entry.exchange.aim entry.errand.is_safe head ≤ others_named b head) (invalidates_same given.number entry e head shown) (others_of entry.exchange.aim)

  pub taken_evicting : y.state.is_evicting ≡ x.state.is_evicting
  taken_evicting = ap (λ (q : Turn). q.is_evicting) given.rest ∙ roomed_evicting head entry.exchange.aim entry.errand entry.exchange.number p ∙ alike.evicting

  its_aim : (a : EntryAim) → entry.exchange.aim ≡ a → e.aim ≡ aim_of a
  its_aim a is = sym shown.aim ∙ ap (λ (b : EntryAim). aim_of b) is

  -- both show the same rows behind it
  module _ (few : length x.state.cache.outdated + rows s + (3 + others_told e head) < 2048) (way : MayMakeRoom s) (pass : e.aim ≡ Through → MayPass s e head) (straight : y.state.is_astray ≡ false) (tied : IsTied x.state s) (part_heads : PartHeadsAreTheLaws) (other : ℕ → ℕ) (table : ShowsTable other y.state.cache (begun_by k e head rule s)) where
    named_then : AreNamed u.entries
    named_then = subst (λ (es : List KeptEntry). AreNamed es) (sym entries) tied.named

    noted_then : AreNoted p.cache.outdated u.displaced u.entries
    noted_then =
        subst (λ (es : List KeptEntry). AreNoted p.cache.outdated u.displaced es) (sym entries)
        (subst (λ (ks : List Bytes). AreNoted p.cache.outdated ks s.entries) (sym displaced) (subst (λ (ns : List Bytes). AreNoted ns s.displaced s.entries) (sym alike.noted) tied.noted))

    leaves_then : LeavesAsTheLaw p u
    leaves_then = record { forgotten = given.forgotten }

    room_then : (more : ℕ) → more ≤ others_told e head + 2 → MayNoteMore more (parts p)
    room_then more less =
        fits more (others_told e head) (length p.cache.outdated) (length x.state.cache.outdated) (count_by is_row p.cache.instances) (rows u) (rows begun) (rows s) (ap (λ (ns : List Bytes). length ns) alike.noted) (room_of given.number p.cache u given.at.shows.shows.table.table) entered.few
        (conn_rows k.number (answered_by (answer_with e head rule)) s) less few
      where
        fits : (more m a b c d f g : ℕ) → a ≡ b → c ≡ d → d ≤ f + 1 → f ≡ g → more ≤ m + 2 → b + g + (3 + m) < 2048 → a + c + more < 2048
        fits more m a b c d f g one two three four less five = omega (arith, one, two, three, four, less, five)

    way_then : row u (key_of e) ≡ None → MayMakeRoom u
    way_then none = subst MayMakeRoom (sym (entered.none none)) (conn_room k.number (answered_by (answer_with e head rule)) s way)

    last_noted : y.state.cache.outdated ≡ between.cache.outdated
    last_noted = ap (λ (q : Parts). q.cache.outdated) given.taken.noted

    abbrev roomed_as : EntryAim → Turn
    roomed_as a = roomed_for a entry.errand head entry.exchange.number p

    tied_as : (a : EntryAim) (v : State) → entry.exchange.aim ≡ a → AreNoted between.cache.outdated v.displaced v.entries × AreNamed v.entries → LeavesAsTheLaw (roomed_as a) v → IsTied y.state v
    tied_as a v is noted leaves = record {
      noted = subst (λ (ns : List Bytes). AreNoted ns v.displaced v.entries) (sym last_noted) noted.0;
      named = noted.1;
      leaves = record { forgotten = ap (λ (q : Turn). q.forgotten) given.rest ∙ ap (λ (b : EntryAim). (roomed_as b).forgotten) is ∙ leaves.forgotten };
    }

    owns : entry.exchange.aim ≡ OfItself → IsTied y.state (own_head e head rule u)
    owns aim_is =
        tied_as OfItself (own_head e head rule u) aim_is
        (own_notes given.number name none_leaves given.peers p u e.number entry e head rule given.at (room_then 1 (omega arith)) between
        (subst (λ (a : EntryAim). TakesAim a entry.exchange entry.errand head rule p between) aim_is given.taken.taken) named_then noted_then)
        (own_heads_forget given.number name none_leaves given.peers p u e.number entry e head rule given.at way_then leaves_then)

    may_pass : MayPass s e head → MayPass u e head
    may_pass one = record {
      client = λ goes. let it = one.client goes in record { number = it.number; client = it.client; asker = it.asker; there = ap (λ (cs : List Client). find (is_client it.number) cs) clients ∙ it.there };
      key = λ m c asks found. one.key m c asks (sym (ap (λ (cs : List Client). find (is_client m) cs) clients) ∙ found);
    }

    straight_then : between.is_astray ≡ false
    straight_then = sym (ap (λ (q : Parts). q.is_astray) given.taken.noted) ∙ straight

    passes : entry.exchange.aim ≡ AsPassed → IsTied y.state (through_head e head rule u)
    passes aim_is =
        let through : e.aim ≡ Through = its_aim AsPassed aim_is in
        let left : Left u (through_head e head rule u) = through_left e head rule u in
        let may : MayPass u e head = may_pass (pass through) in
        let head_passes : PassesHead name entry.exchange entry.errand head rule (parts p) between =
        subst (λ (own : Bytes). PassesHead own entry.exchange entry.errand head rule (parts p) between) given.at.own_name (subst (λ (a : EntryAim). TakesAim a entry.exchange entry.errand head rule p between) aim_is given.taken.taken) in
        tied_as AsPassed (through_head e head rule u) aim_is
        (naming_notes given.number name none_leaves given.peers (parts p) u e.number entry e head rule between given.at.shows
        (record {
          answered = given.at.answered;
          through = through_so e through;
          stands = given.at.stands;
          asks = given.at.asks;
          client = may.client;
        }) (λ changes. keyed given.number name none_leaves given.peers (parts p) u given.at.shows e.number entry e head given.at.answered given.at.stands given.at.asks may changes) (room_then (others_told e head + 1) (omega arith)) head_passes
        (each_read (invalidates entry.errand.is_safe head) (key_in_flow entry.exchange.number p.flow) entry.errand.place.path head (parts p) head_passes.outdated.between head_passes.outdated.invalidated
        (passed_straight name entry head rule (parts p) between head_passes straight_then)) named_then noted_then)
        (record { forgotten = leaves_then.forgotten ∙ sym left.forgotten })

    fills : (v : Version) (from to : ℕ) → entry.exchange.aim ≡ Hole v from to → IsTied y.state (filling_head e head rule u)
    fills v from to aim_is =
        tied_as (Hole v from to) (filling_head e head rule u) aim_is
        (filling_notes part_heads given.number other name none_leaves given.peers p u e.number entry e head rule between given.at (room_then 2 (omega arith)) it none
        (subst (λ (m : Memory). ShowsTable other m (filling_head e head rule u)) (ap (λ (q : Parts). q.cache) given.taken.noted)
        (subst (λ (w : State). ShowsTable other y.state.cache w) (sym given.begun ∙ aimed_is e head rule u ∙ ap (λ (a : Aim). aimed e head rule u a) (its_aim (Hole v from to) aim_is)) table)) named_then noted_then)
        (filling_heads_forget given.number name none_leaves given.peers p u e.number entry e head rule given.at way_then leaves_then)
      where
        it : FillsHead entry.exchange entry.errand head rule p between
        it = subst (λ (a : EntryAim). TakesAim a entry.exchange entry.errand head rule p between) aim_is given.taken.taken

        -- memory was refused for no row before what it costs elsewhere
        none : it.between.refused ≡ []
        none =
            let counts_on : Stay it.between (counted entry.exchange it.between) = counts entry.exchange entry.errand head rule p it.between in
            let takes_on : Stay (parts p) it.between = takes_part entry.exchange entry.errand head rule p (version_in entry.errand head) it.between it.taken in
            takes_on.refused (counts_on.astray (sym (ap (λ (q : Parts). q.is_astray) it.elsewhere) ∙ straight_then)) given.at.shows.refused

    by_its_aim : (a : EntryAim) → entry.exchange.aim ≡ a → IsTied y.state (aimed e head rule u (aim_of a))
    by_its_aim OfItself is = owns is
    by_its_aim (Hole v from to) is = fills v from to is
    by_its_aim AsPassed is = passes is

    is_tied : IsTied y.state (begun_by k e head rule s)
    is_tied =
        subst (λ (v : State). IsTied y.state v) (sym (aimed_is e head rule u ∙ ap (λ (a : Aim). aimed e head rule u a) (its_aim entry.exchange.aim refl)) ∙ given.begun) (by_its_aim entry.exchange.aim refl)

-- what stands beside the row of its key, where it is taken
pub taken_there : RulesAreTheLaws → OwnAnswersAreTheLaws → PassedAnswersAreTheLaws → PartAnswersAreTheLaws → (number : ℕ → ℕ) (shelf : KeptMap) (x y : Both) (s : State) (n : ℕ) (k : Conn) (e : Exchange) (peer : Peer) (head : Response) (rule : BodyRule) (left : Reading) → ShowsBoth number shelf x s → HeadIsDue x s n k e peer → HeadIsRead e head rule left
    → MayAnswer x.state s e head → (it : HeadCame shelf n (with_head n peer left x) y) → IsGivenHead (first_on n (parts x.state)) shelf n (with_head n peer left x) y it → y.state.refused ≡ [] → is_wrong_head e head ≡ false → TakenHead shelf x y s k e head rule
taken_there rules own passed part number shelf x y s n k e peer head rule left shows due read may it given none right =
    by (first_on n (parts x.state)) (first_is rules own passed part number shelf x y s n k e peer head rule left shows due read may) it given
  where
    at : (m : ℕ) → m ≡ e.number → (it : HeadCameFor (Some m) shelf n (with_head n peer left x) y) → IsGivenBeside shelf n m (with_head n peer left x) y it → TakenHead shelf x y s k e head rule
    at m same =
        subst (λ (m : ℕ). (it : HeadCameFor (Some m) shelf n (with_head n peer left x) y) → IsGivenBeside shelf n m (with_head n peer left x) y it → TakenHead shelf x y s k e head rule) (sym same)
        (λ it given. taken_head rules own passed part number shelf x y s n k e peer head rule left shows due read may it given none right)

    by : (o : Option ℕ) → o ≡ Some e.number → (it : HeadCameFor o shelf n (with_head n peer left x) y) → IsGivenHead o shelf n (with_head n peer left x) y it → TakenHead shelf x y s k e head rule
    by None is it given = absurd (cc is)
    by (Some m) is it given = at m (some_is m e.number is) it given

pub heads_tie : RulesAreTheLaws → OwnAnswersAreTheLaws → PassedAnswersAreTheLaws → PartAnswersAreTheLaws → PartHeadsAreTheLaws → HeadsTie
heads_tie rules own passed part part_heads number shelf x y s n k e peer head rule left shows due read may room it given none straight tied right =
    is_tied shelf x y s k e head rule (taken_there rules own passed part number shelf x y s n k e peer head rule left shows due read may it given none right)
    (subst (λ (m : ℕ). length x.state.cache.outdated + m + (3 + others_told e head) < 2048) (room_of number x.state.cache s shows.read.turn.steps.shows.table.table) room) may.room may.passes straight tied part_heads leads.number leads.shows.shows.table.table
  where
    leads : HeadIsTaken number x y s n k e head rule
    leads = subst (λ (b : Bool). HeadLeads number b x y s n k e head rule) right (heads_come rules own passed part number shelf x y s n k e peer head rule left shows due read may it given none straight)
