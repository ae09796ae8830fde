-- Each client's reply may begin at the end of a turn.
use Rattle.std.proofs.Common.{◌≡◌, ◌≤◌, ◌<◌, refl, sym, subst, ap, ◌∙◌, inl, inr, ℕ, Bool, true, false, not, ◌==◌, ◌&&◌, ◌||◌, nat_le, nat_lt, is_some, length, List, [], ◌∷◌, Option, Some, None, arith}
use Rattle.std.proofs.lemmas.Bool.Decides.{nat_tests}
use Rattle.std.specs.List.{list_any}
use Rattle.std.specs.Prelude.{slice_get}
use Rattle.pp_asks_law.proofs.Wanted.{only_found}
use Rattle.pp_asks_law.specs.Begins.{BeginsOn, RepliesMayBegin}
use Rattle.pp_cache_law.proofs.Numbers.{some_is}
use Rattle.pp_turns_law.specs.Begins.{MayShow, is_kept_by}
use Rattle.pp_deciding_law.proofs.Disk.{in_place}
use Rattle.pp_flow_law.specs.Tables.{none_leaves}
use Rattle.pp_law.specs.Closing.{is_of}
use Rattle.pp_law.specs.Connections.{client, is_client}
use Rattle.pp_law.specs.Deciding.{span_of}
use Rattle.pp_law.specs.Lists.{is_this}
use Rattle.pp_law.specs.Replies.{is_part as is_part_by}
use Rattle.pp_law.specs.Requests.{Parsed, IsRequest}
use Rattle.pp_law.specs.Stages.{is_followed_by, is_headed, is_passing, passed_of}
use Rattle.pp_law.specs.State.{State, Client, Exchange, Instance as Known, Passed, Reply, Stage, Term, Undecided, Waiting, Passing, Answering}
use Rattle.pp_law.specs.Table.{instance, is_instance}
use Rattle.pp_laws.proofs.Lists.{in_find, one_of}
use Rattle.pp_laws.proofs.Sound.{client_number, facts_of as sound_facts}
use Rattle.pp_laws.proofs.Tests.{number_same, same_number}
use Rattle.pp_laws.specs.Runs.{IsIn}
use Rattle.pp_laws_coming.proofs.Laws.{asks_told}
use Rattle.pp_laws_coming.specs.Coming.{IsToldOn}
use Rattle.pp_laws_decided.proofs.Laws.{turns_are_decided}
use Rattle.pp_laws_decided.specs.Decided.{IsChosen, IsReadFrom, IsSpanOf}
use Rattle.pp_laws_replies.specs.ByRow.{is_by_row}
use Rattle.pp_laws_texts.proofs.Heads.{heads_have_room}
use Rattle.pp_laws_texts.proofs.Laws.{turns_have_lines}
use Rattle.pp_laws_turn.proofs.Lifts.{sound_on}
use Rattle.pp_obeys.specs.Obeys.{Obeys}
use Rattle.pp_objects.specs.declared.id.ObjectId.{ObjectId}
use Rattle.pp_peers.specs.declared.peers.Peer.{Peer}
use Rattle.pp_plan.specs.Spans.{resolved}
use Rattle.pp_ranges.specs.declared.range.Resolved.{Resolved}
use Rattle.pp_ranges.specs.declared.range.Resolved.TheVariants.{Whole as OfAll, Part as OfPart, Unsatisfiable as OfNone}
use Rattle.pp_client.specs.Replies.{Reply as Said}
use Rattle.pp_client.specs.declared.reply.Begin.{Begin}
use Rattle.pp_client.specs.declared.reply.Begin.TheVariants.{Page, Instance, Passed as IsPassed}
use Rattle.pp_client.specs.declared.reply.Stage.{Stage as SaidStage}
use Rattle.pp_client.specs.declared.reply.Stage.TheVariants.{Due, Begun}
use Rattle.pp_reply.specs.declared.kept.KeptReply.{KeptReply}
use Rattle.pp_reply.specs.declared.kept.KeptReply.TheVariants.{Part as KeptPart, Whole as KeptWhole}
use Rattle.pp_seats.specs.Dues.{is_refused_in}
use Rattle.pp_seats.specs.declared.seat.Answer.{Answer}
use Rattle.pp_seats.specs.declared.seat.Seat.{Seat}
use Rattle.pp_rounds_law.specs.Ends.{MayBeginNow, WasDecidedAs}
use Rattle.pp_seats.specs.declared.seat.Stage.{Stage as SeatStage}
use Rattle.pp_seats.specs.declared.seat.Stage.TheVariants.{Answering as IsAnswering}
use Rattle.pp_seats_law.specs.Replies.{IsDueAs, ShowsBegin, ShowsSaid, ShowsStage, source_number}
use Rattle.pp_seats_law.specs.Seats.{ShowsSeat}
use Rattle.pp_state.specs.declared.state.State.{State as Turn}
use Rattle.pp_steps.specs.Begins.{can_show, is_part, shows_of}
use Rattle.pp_turns_law.proofs.First.{IsShownAt, client_shown}
use Rattle.pp_turns_law.specs.Turns.{ShowsTurn}
use Rattle.pp_world.specs.Log.{Log}
use Rattle.pp_world.specs.declared.note.Decision.{Decision}
use Rattle.pp_world.specs.declared.note.Decision.TheVariants.{Refuse, Hit, Part, Head, NotModified, Unsatisfiable, Relay, Validate, Fetch, Pass}

-- ---- the reply of a client, where that of its seat has not begun

pub record IsAnsweredAs (number : ℕ → ℕ) (a : Answer) (c : Client) : Type 0 where
  pub reply : Reply
  pub stage : c.stage ≡ Answering reply
  pub decision : a.decision ≡ reply.decision
  pub source : (id : ObjectId) → a.source ≡ Some id → reply.source ≡ Some (number id.life)
  pub none : reply.source ≡ None → a.source ≡ None
  pub begun : reply.has_begun ≡ false
  pub from : reply.at ≡ a.from
  pub to : reply.to ≡ a.to

due_begin : (b : Begin) (text : List ℕ) (a : Answer) (r : Reply) → ShowsBegin b text a r → a.has_begun ≡ true
due_begin Page text a r shows = shows.0.begun
due_begin (Instance id next to) text a r shows = shows.0.begun
due_begin IsPassed text a r shows = shows.0.begun

due_said : (stage : SaidStage) (text : List ℕ) (a : Answer) (r : Reply) → ShowsSaid stage text a r → a.has_begun ≡ false → IsDueAs a r
due_said Due text a r shows due = shows
due_said (Begun b) text a r shows due = absurd (let both : true ≡ false = sym (due_begin b text a r shows) ∙ due in cc both)

source_none : (number : ℕ → ℕ) (o : Option ObjectId) (r : Option ℕ) → source_number number o ≡ r → r ≡ None → o ≡ None
source_none number None r is none = refl
source_none number (Some id) r is none = absurd (let both : Some (number id.life) ≡ None = is ∙ none in cc both)

answered_by : (number : ℕ → ℕ) (said : Said) (a : Answer) (c : Client) (stage : Stage) → c.stage ≡ stage → ShowsStage number said (IsAnswering a) stage → a.has_begun ≡ false → IsAnsweredAs number a c
answered_by number said a c Undecided at shows due = absurd shows
answered_by number said a c Waiting at shows due = absurd shows
answered_by number said a c Passing at shows due = absurd shows
answered_by number said a c (Answering r) at shows due =
    let is : IsDueAs a r = due_said said.stage said.text a r shows.says due in
    record {
      reply = r;
      stage = at;
      decision = shows.decision;
      source = λ id its. sym shows.source ∙ ap (source_number number) its;
      none = source_none number a.source r.source shows.source;
      begun = sym shows.begun ∙ due;
      from = is.from;
      to = is.to;
    }

pub answered : (number : ℕ → ℕ) (name : List ℕ) (seat : Seat) (c : Client) (a : Answer) → ShowsSeat number name [] seat c → c.is_closing ≡ false → seat.stage ≡ IsAnswering a → a.has_begun ≡ false → IsAnsweredAs number a c
answered number name seat c a shows going at due =
    answered_by number seat.client.reply a c c.stage refl (subst (λ (x : SeatStage). ShowsStage number seat.client.reply x c.stage) at (shows.going going).stage) due

-- ---- what was decided may be shown

-- a reply is read from a row by just those decisions
kept_by : (d : Decision) → is_by_row d ≡ true → is_kept_by d ≡ true
kept_by (Refuse status) is = absurd (cc is)
kept_by (Hit from to) is = refl
kept_by (Part from to) is = refl
kept_by Head is = refl
kept_by NotModified is = refl
kept_by Unsatisfiable is = refl
kept_by Relay is = absurd (cc is)
kept_by Validate is = absurd (cc is)
kept_by Fetch is = absurd (cc is)
kept_by Pass is = absurd (cc is)

-- and one that is passed has no bytes of a row
no_span : (d : Decision) → is_passing d ≡ true → (span_of d).0 ≡ (span_of d).1
no_span (Refuse status) is = refl
no_span (Hit from to) is = absurd (cc is)
no_span (Part from to) is = absurd (cc is)
no_span Head is = refl
no_span NotModified is = refl
no_span Unsatisfiable is = refl
no_span Relay is = refl
no_span Validate is = refl
no_span Fetch is = refl
no_span Pass is = refl

same_part : (res : Resolved) → is_part res ≡ is_part_by res
same_part OfAll = refl
same_part (OfPart from to) = refl
same_part OfNone = refl

within_body : (from to n : ℕ) → from < to → to ≤ n → (nat_lt from to && nat_le to n) ≡ true
within_body from to n some within = grind (arith, nat_tests)

body_shows : (from to n : ℕ) (part : Bool) → (part ≡ true → from < to) → to ≤ n → can_show (elim part as (λ x. KeptReply) [ true ↦ KeptPart from to | false ↦ KeptWhole ]) n ≡ true
body_shows from to n true some within = within_body from to n (some refl) within
body_shows from to n false some within = refl

shown : (d : Decision) (from to n : ℕ) (part : Bool) → is_by_row d ≡ true → (is_followed_by d ≡ true → part ≡ true → from < to) → to ≤ n → can_show (shows_of d (from, to) part) n ≡ true
shown (Refuse status) from to n part by some within = absurd (cc by)
shown (Hit first end) from to n part by some within = body_shows from to n part (some refl) within
shown (Part first end) from to n part by some within = body_shows from to n part (some refl) within
shown Head from to n part by some within = refl
shown NotModified from to n part by some within = refl
shown Unsatisfiable from to n part by some within = refl
shown Relay from to n part by some within = absurd (cc by)
shown Validate from to n part by some within = absurd (cc by)
shown Fetch from to n part by some within = absurd (cc by)
shown Pass from to n part by some within = absurd (cc by)

short_enough : (n k : ℕ) → n ≤ k → nat_le n k ≡ true
short_enough n k le = grind (arith, nat_tests)

one_request : {p q : Parsed} → IsRequest p ≡ IsRequest q → p ≡ q
one_request same = cc same

one_number : {m n : ℕ} → Some m ≡ Some n → m ≡ n
one_number same = cc same

-- ---- a response that is passed to it had its head

none_waits : (n : ℕ) (es : List Exchange) → ((e : Exchange) → IsIn e es → e.asker ≡ Some n → is_headed e ≡ false → ⊥) → list_any (λ e. is_of n e && not (is_headed e)) es ≡ false
none_waits n [] none = refl
none_waits n (e ∷ es) none = by e.asker refl (is_headed e) refl (none_waits n es (λ d i. none d (inr i)))
  where
    at : (m : ℕ) (b h : Bool) → (m == n) ≡ b → e.asker ≡ Some m → is_headed e ≡ h → list_any (λ d. is_of n d && not (is_headed d)) es ≡ false → ((b && not h) || list_any (λ d. is_of n d && not (is_headed d)) es) ≡ false
    at m true true same asks head rest = rest
    at m true false same asks head rest = absurd (none e (inl refl) (asks ∙ ap (λ (k : ℕ). Some k) (same_number m n same)) head)
    at m false h same asks head rest = rest

    by : (o : Option ℕ) → e.asker ≡ o → (h : Bool) → is_headed e ≡ h → list_any (λ d. is_of n d && not (is_headed d)) es ≡ false → ((is_this n o && not h) || list_any (λ d. is_of n d && not (is_headed d)) es) ≡ false
    by None asks h head rest = rest
    by (Some m) asks h head rest = at m (m == n) h refl asks head rest

-- ---- all of it

module _ (terms : List Term) (log : Log) (number : ℕ → ℕ) (peers : List Peer) (p : Turn) (s : State) (obeys : Obeys terms s log) (turn : ShowsTurn number none_leaves peers p s) (rests : BeginsOn p) where
  told : IsToldOn s
  told = asks_told terms s log obeys

  here : (c : Client) → IsIn c s.clients → client s c.number ≡ Some c
  here c i = only_found (is_client c.number) c s.clients (λ d j hit. one_of client_number s.clients d c (sound_facts (sound_on terms s log obeys)).callers.rise j i (same_number d.number c.number hit)) (number_same c.number) i

  headed : (c : Client) → IsIn c s.clients → is_some (passed_of c) ≡ true → list_any (λ e. is_of c.number e && not (is_headed e)) s.exchanges ≡ false
  headed c i passed = none_waits c.number s.exchanges (λ e j asks off. absurd (let both : true ≡ false = sym passed ∙ ap (λ (o : Option Passed). is_some o) ((told.told e c.number c j asks (here c i)).untold off) in cc both))

  -- ---- what was decided

  module _ (seat : Seat) (c : Client) (a : Answer) (i : IsIn c s.clients) (is : IsAnsweredAs number a c) where
    chosen : IsChosen s c is.reply
    chosen = (turns_are_decided terms s log obeys).chosen c is.reply i is.stage is.begun

    reads : is_passing a.decision ≡ false → IsReadFrom s c is.reply
    reads off = chosen.shows (ap is_passing (sym is.decision) ∙ off)

    shows_it : (r : Parsed) (x : Known) (id : ObjectId) → is_passing a.decision ≡ false → c.front ≡ IsRequest r → a.source ≡ Some id → instance s (number id.life) ≡ Some x → MayShow s a c r x
    shows_it r x id off front source found = record {
      span = shown a.decision a.from a.to x.version.length (is_part (resolved r.head.fields x.version)) by_row
          (λ follows part. subst (λ (n : ℕ). n < a.to) is.from (subst (λ (n : ℕ). is.reply.at < n) is.to
          (its.part (ap is_followed_by (sym is.decision) ∙ follows) (sym (same_part (resolved w.request.head.fields x.version)) ∙ ap (λ (q : Parsed). is_part (resolved q.head.fields x.version)) same_request ∙ part))))
          (subst (λ (n : ℕ). n ≤ x.version.length) is.to its.within);
      lines = short_enough _ 18432 ((turns_have_lines terms s log obeys).rows x there);
      room = heads_have_room terms s log obeys (subst (λ (n : List ℕ). length n ≤ 64) turn.name rests.name) c r x a.decision there
          (subst (λ (d : Decision). (span_of d).0 ≤ (span_of d).1) (sym is.decision) (ends is.reply.at is.reply.to (span_of is.reply.decision).0 (span_of is.reply.decision).1 w.at w.to w.order))
          (subst (λ (d : Decision). (span_of d).1 ≤ x.version.length) (sym is.decision) (subst (λ (n : ℕ). n ≤ x.version.length) w.to its.within));
    }
      where
        w : IsReadFrom s c is.reply
        w = reads off

        there : IsIn x s.instances
        there = (in_find (is_instance (number id.life)) x s.instances found).0

        same_request : w.request ≡ r
        same_request = one_request (sym w.front ∙ front)

        same_source : w.source ≡ number id.life
        same_source = one_number (sym w.is ∙ is.source id source)

        its : IsSpanOf is.reply w.request x
        its = w.span x (ap (λ (n : ℕ). instance s n) same_source ∙ found)

        by_row : is_by_row a.decision ≡ true
        by_row = ap is_by_row is.decision ∙ w.by_row

        ends : (at to m n : ℕ) → at ≡ m → to ≡ n → at ≤ to → m ≤ n
        ends at to m n one two le = omega (arith, one, two, le)

    decided_by : (b : Bool) → is_passing a.decision ≡ b → is_refused_in seat.brought ≡ false → WasDecidedAs number s seat c a
    decided_by true on fresh =
        let none = chosen.span (ap is_passing (sym is.decision) ∙ on) in
        record {
          passes = λ passing. is.none (chosen.passes (ap is_passing (sym is.decision) ∙ passing));
          kept = λ off. (let both : true ≡ false = sym on ∙ off in absurd (cc both));
          from = sym is.from ∙ none.0 ∙ ap (λ (d : Decision). (span_of d).0) (sym is.decision);
          to = sym is.to ∙ none.1 ∙ ap (λ (d : Decision). (span_of d).1) (sym is.decision);
          order = subst (λ (n : ℕ). n ≤ a.to) is.from (subst (λ (n : ℕ). is.reply.at ≤ n) is.to (as_one is.reply.at is.reply.to (none.0 ∙ no_span is.reply.decision (ap is_passing (sym is.decision) ∙ on) ∙ sym none.1)));
          given = fresh;
          shows = shows_it;
        }
      where
        as_one : (from to : ℕ) → from ≡ to → from ≤ to
        as_one from to same = omega (arith, same)
    decided_by false off fresh =
        let w : IsReadFrom s c is.reply = reads off in
        record {
          passes = λ passing. is.none (chosen.passes (ap is_passing (sym is.decision) ∙ passing));
          kept = λ isnt. kept_by a.decision (ap is_by_row is.decision ∙ w.by_row);
          from = sym is.from ∙ w.at ∙ ap (λ (d : Decision). (span_of d).0) (sym is.decision);
          to = sym is.to ∙ w.to ∙ ap (λ (d : Decision). (span_of d).1) (sym is.decision);
          order = subst (λ (n : ℕ). n ≤ a.to) is.from (subst (λ (n : ℕ). is.reply.at ≤ n) is.to w.order);
          given = fresh;
          shows = shows_it;
        }

  -- ---- of each

  pub may_begin : (i : ℕ) (seat : Seat) (c : Client) → slice_get p.seats.items i ≡ Some seat → slice_get s.clients i ≡ Some c → c.is_closing ≡ false → MayBeginNow number s seat c
  may_begin i seat c at there going = record {
    room = rests.texts i seat at;
    headed = headed c inside;
    decided = λ a stage due. decided_by seat c a inside (answered number p.name.items seat c a shows going stage due) (is_passing a.decision) refl (rests.given i seat at (shows.closing ∙ going));
  }
    where
      inside : IsIn c s.clients
      inside = in_place i s.clients c there

      one : IsShownAt number p.name.items p.seats.items s.clients i
      one = client_shown number p.name.items p.seats.items s.clients i c turn.steps.shows.clients there

      same_seat : one.seat ≡ seat
      same_seat = some_is one.seat seat (sym one.here ∙ at)

      same_client : one.client ≡ c
      same_client = some_is one.client c (sym one.there ∙ there)

      shows : ShowsSeat number p.name.items [] seat c
      shows = subst (λ (d : Client). ShowsSeat number p.name.items [] seat d) same_client (subst (λ (x : Seat). ShowsSeat number p.name.items [] x one.client) same_seat one.shows)

pub replies_may : RepliesMayBegin
replies_may terms before number shelf p s obeys stands rests i seat c at there going = may_begin terms before number p.peers p.state s obeys stands.turn rests i seat c at there going
