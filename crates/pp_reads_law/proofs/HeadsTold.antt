-- What exchanges of clients joined is told behind a head that is taken, and behind one that is refused.
use Rattle.std.proofs.Common.{◌≡◌, ◌≤◌, refl, sym, subst, ℕ, false, find, List, Some}
use Rattle.pp_answers.specs.FinalHeads.{TakesAim, TakesHead}
use Rattle.pp_answers_law.proofs.Carried.{numbers_stay}
use Rattle.pp_answers_law.proofs.GivenAnswers.{heads_on}
use Rattle.pp_answers_law.proofs.GivenSeats.{on_is}
use Rattle.pp_answers_law.proofs.Joining.{joined_none}
use Rattle.pp_answers_law.proofs.QuietAnswers.{heads_joined}
use Rattle.pp_answers_law.proofs.QuietCosts.{Quiet, q_is}
use Rattle.pp_answers_law.specs.Joined.{IsThereIn, IsWhole, JoinedOr}
use Rattle.pp_answers_law.specs.Lives.{KeepsLives}
use Rattle.pp_answers_law.specs.Owns.{KeepsNumbers}
use Rattle.pp_cache_law.specs.Tables.{ShowsTable}
use Rattle.pp_due.specs.Entering.{HasRowFor}
use Rattle.pp_flow.specs.Entries.{is_number}
use Rattle.pp_flow.specs.declared.entry.Aim.{Aim as SeatAim}
use Rattle.pp_flow.specs.declared.entry.Aim.TheVariants.{Own as OfItself, Hole, Pass}
use Rattle.pp_flow.specs.declared.entry.Entry.{Entry}
use Rattle.pp_flow_law.specs.Tables.{none_leaves}
use Rattle.pp_framing.specs.declared.body.BodyRule.{BodyRule}
use Rattle.pp_head.specs.Response.{Response}
use Rattle.pp_desk.specs.Closings.{Sides}
use Rattle.pp_law.specs.Connections.{front_of_line}
use Rattle.pp_law.specs.Lists.{Bytes}
use Rattle.pp_law.specs.Responses.{bad_head, bad_response}
use Rattle.pp_law.specs.State.{State, Conn}
use Rattle.pp_laws_replies.proofs.Cases.{each_of, when}
use Rattle.pp_laws_replies.proofs.Quiet.{Quietly, facts_of, quiet_same}
use Rattle.pp_laws_replies.proofs.QuietAsks.{close_conn-quiet, end_exchange-quiet, fail-quiet, lose_attempt-quiet}
use Rattle.pp_objects.specs.declared.id.ObjectId.{ObjectId}
use Rattle.pp_origins.specs.Responses.{bad_response as made_bad}
use Rattle.pp_peers.specs.declared.peers.Peer.{Peer}
use Rattle.pp_seats.specs.declared.seat.Seat.{Seat}
use Rattle.pp_state.specs.Ends.{Parts, parts}
use Rattle.pp_state.specs.Keys.{key_of}
use Rattle.pp_state.specs.declared.state.State.{State as Turn}
use Rattle.pp_states_law.specs.Steps.{ShowsSteps}
use Rattle.pp_states_law.specs.Told.{IsTold}
use Rattle.pp_store.specs.Kept.{KeptMap}
use Rattle.pp_reads_law.proofs.FollowersTold.{bound_told, filling_joined}
use Rattle.pp_reads_law.proofs.GivenReads.{row_for_on}
use Rattle.pp_reads_law.proofs.GivenSteps.{bad_on_lives as bad_lives}
use Rattle.pp_reads_law.proofs.Knows.{row_beside}
use Rattle.pp_reads_law.proofs.QuietSteps.{bad_on_lives}
use Rattle.pp_reads_law.proofs.ToldSteps.{step_told, table_gives, told_by, told_here}
use Rattle.pp_reads_law.specs.Told.{StaysTold}

-- the row of its key comes in beside it
pub row_told : (number one : ℕ → ℕ) (shelf : KeptMap) (x p : Turn) (s t : State) (n : ℕ) → ShowsTable number x.cache s → ShowsTable one p.cache t → HasRowFor shelf (key_of n x.flow) x p → KeepsNumbers number one x.cache.lives p.cache.lives s.next_instance → s.next_instance ≤ t.next_instance
    → StaysTold number (parts x) s one (parts p) t
row_told number one shelf x p s t n table then row numbers grows =
    step_told number one (parts x) (parts p) s t table then (row_for_on shelf (key_of n x.flow) x p row (table_gives number x.cache s table)).memory numbers grows
    (subst (λ (ss : List Seat). JoinedOr (IsThereIn (parts x) (parts p)) x.seats.items ss) (sym (row_beside shelf (key_of n x.flow) x p row).seats) (joined_none (IsThereIn (parts x) (parts p)) x.seats.items))

-- whatever was asked
pub head_told : (number one : ℕ → ℕ) (name : Bytes) (peers : List Peer) (p q : Turn) (s t : State) (n : ℕ) (x : Entry) (head : Response) (rule : BodyRule) → ShowsTable number p.cache s → ShowsSteps one name none_leaves peers (parts q) t → find (is_number x.exchange.number) p.flow.placed ≡ Some x → TakesHead n x.exchange x.errand head rule p (parts q)
    → KeepsNumbers number one p.cache.lives q.cache.lives s.next_instance → s.next_instance ≤ t.next_instance → StaysTold number (parts p) s one (parts q) t
head_told number one name peers p q s t n x head rule table then placed taken numbers grows = by x.exchange.aim refl
  where
    lives : KeepsLives p.cache q.cache
    lives = (heads_on n head (Some (x, rule)) p (parts q) taken (table_gives number p.cache s table)).memory

    whole : IsWhole x.exchange.aim → StaysTold number (parts p) s one (parts q) t
    whole is = step_told number one (parts p) (parts q) s t table then.shows.table.table lives numbers grows (heads_joined n head rule x.exchange x.errand p (parts q) is taken)

    by : (aim : SeatAim) → x.exchange.aim ≡ aim → StaysTold number (parts p) s one (parts q) t
    by OfItself is = whole (subst (λ (a : SeatAim). IsWhole a) (sym is) tt)
    by Pass is = whole (subst (λ (a : SeatAim). IsWhole a) (sym is) tt)
    by (Hole v from to) is =
        let named : ObjectId → Type 0 = λ id. IsTold one q.cache t.next_instance id in
        told_by number one (parts p) (parts q) s t table then.shows.table.table lives numbers grows named (λ id told. told)
        (filling_joined named n x.exchange x.errand head rule p q x placed (told_here number one (parts p) (parts q) s t table then.shows.table.table lives numbers grows) (bound_told one name peers q t x.exchange.number then)
        (subst (λ (a : SeatAim). TakesAim a x.exchange x.errand head rule p taken.between) is taken.taken) taken.noted)

-- ---- it is refused

bad_response_quiet : {o : State} (k : Conn) (s : State) → Quietly o s → Quietly o (bad_response k s)
unfolding bad_response
bad_response_quiet k s h = each_of (front_of_line s k) (close_conn-quiet false k s h) (λ e. close_conn-quiet false k _ (end_exchange-quiet e.number _ (fail-quiet e s h)))

bad_head_quiet : {o : State} (k : Conn) (s : State) → Quietly o s → Quietly o (bad_head k s)
unfolding bad_head
bad_head_quiet k s h = when k.has_brought (each_of (front_of_line s k) (close_conn-quiet false k s h) (λ e. close_conn-quiet false k _ (lose_attempt-quiet e s h))) (bad_response_quiet k s h)

-- the law takes no number back
pub bad_head_grows : (k : Conn) (s : State) → s.next_instance ≤ (bad_head k s).next_instance
bad_head_grows k s = (facts_of (bad_head_quiet k s (quiet_same s))).next

pub refused_told : (number : ℕ → ℕ) (p : Turn) (q : Parts) (s t : State) (n : ℕ) (peers : List Peer) → ShowsTable number p.cache s → ShowsTable number q.cache t → q ≡ (made_bad n (record { parts = parts p; peers = peers })).parts → s.next_instance ≤ t.next_instance
    → StaysTold number (parts p) s number q t
refused_told number p q s t n peers table then is grows =
    let x : Sides = record { parts = parts p; peers = peers } in
    let quiet : Quiet (IsThereIn (parts p) q) (parts p) q = q_is (IsThereIn (parts p) q) (parts p) (made_bad n x).parts q is (bad_on_lives (IsThereIn (parts p) q) n x) in
    step_told number number (parts p) q s t table then (on_is (parts p) (made_bad n x).parts q is (bad_lives n x) (table_gives number p.cache s table)).memory
    (numbers_stay number p.cache.lives q.cache.lives s.next_instance quiet.lives) grows quiet.joined
