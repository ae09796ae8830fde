-- Of what is dropped as much is counted as came, behind each step of decisions and rounds.
use Rattle.std.proofs.Common.{◌≡◌, ◌≤◌, refl, sym, subst, ap, ◌∙◌, ℕ, true, List, Some, None}
use Rattle.std.specs.Prelude.{count_by}
use Rattle.pp_cache_law.proofs.Numbers.{is_same}
use Rattle.pp_turns_law.specs.Sides.{MayClose, ShowsSides}
use Rattle.pp_turns_law.specs.Unread.{IsCountedOn}
use Rattle.pp_deciding_law.specs.Cuts.{behind_cut}
use Rattle.pp_deciding_law.specs.Takes.{behind_taken}
use Rattle.pp_desk.specs.Closings.{Sides, sides}
use Rattle.pp_desk.specs.Origins.{without_unseen}
use Rattle.pp_desk.specs.Shutting.{all_over}
use Rattle.pp_desk.specs.declared.desk.Desk.{Desk}
use Rattle.pp_flow.specs.Changes.{Exchanges}
use Rattle.pp_flow_law.specs.Tables.{ShowsFlow, none_leaves}
use Rattle.pp_law.specs.Connections.{conn, is_conn}
use Rattle.pp_law.specs.Followers.{give_up_asks}
use Rattle.pp_law.specs.Phases.{in_phase}
use Rattle.pp_law.specs.State.{State, Conn, Term, Connecting}
use Rattle.pp_law.specs.Unseen.{came_of, drop_unseen}
use Rattle.pp_laws.proofs.Lists.{in_find}
use Rattle.pp_laws.specs.Runs.{IsIn}
use Rattle.pp_laws_turn.proofs.Laws.{sound_turns}
use Rattle.pp_laws_turn.specs.SoundTurn.{IsSoundTurn}
use Rattle.pp_obeys.proofs.Frames.{Frame, frame, frame_of, stays}
use Rattle.pp_obeys.proofs.StaysAsks.{drop_unseen-stays}
use Rattle.pp_obeys.specs.Obeys.{Obeys}
use Rattle.pp_obeys.specs.Moves.{Leads}
use Rattle.pp_proxy.specs.Closing.{ClosesOver}
use Rattle.pp_proxy.specs.Moving.{Moving, with_desk}
use Rattle.pp_proxy.specs.Rounds.{Becomes, Fills, GivesUp}
use Rattle.pp_rounds_law.proofs.Following.{asked_frame}
use Rattle.pp_rounds_law.specs.Stands.{StandsAmid}
use Rattle.pp_rounds_law.specs.Supplies.{followed}
use Rattle.pp_seats.specs.declared.due.Due.TheVariants.{Decide, CutOff}
use Rattle.pp_state.specs.Ends.{Parts, parts}
use Rattle.pp_store.specs.Kept.{KeptMap}
use Rattle.pp_world.specs.Log.{Log}
use Rattle.pp_stays_law.proofs.Came.{Came, any_came, came_at, came_still, put_came}
use Rattle.pp_stays_law.proofs.Counted.{IsAsBefore, all_as_before, counted_behind}
use Rattle.pp_stays_law.proofs.Events.{AreClosings, all_close, closings_fine}
use Rattle.pp_stays_law.proofs.Fits.{AnyEntry, AnyMemory, AnySeat, any_entries, bodies_suit}
use Rattle.pp_stays_law.proofs.Law.{cut_any, fill_any, given_up_any, taken_any}
use Rattle.pp_stays_law.proofs.Stepped.{closed_fine, found_fine, one_fine}
use Rattle.pp_stays_law.proofs.Unseen.{behind_unseen, told, unseen}
use Rattle.pp_stays_law.proofs.Walk.{AllOf, Holds}
use Rattle.pp_stays_law.specs.Steps.{StaysInDecisions}
use Rattle.pp_stays_law.specs.Turns.{AreCounted}

-- ---- of the law

pub given_at : (s : State) → IsSoundTurn s → (n : ℕ) (k : Conn) → conn s n ≡ Some k → n ≤ s.top
given_at s sound n k there = let found : IsIn k s.conns × (is_conn n k ≡ true) = in_find (is_conn n) k s.conns there in subst (λ (m : ℕ). m ≤ s.top) (is_same k.number n found.1) (sound.numbers.conns_given k found.0)

-- what came is the same, where the walk of the step keeps it
pub came_same : (s t : State) → ((n : ℕ) → count_by (is_conn n) s.conns ≤ 1) → ((n : ℕ) (k j : Conn) → conn s n ≡ Some k → conn t n ≡ Some j → n ≤ s.top) → ((n c : ℕ) → Came n c s → Came n c t) → (n : ℕ) (k j : Conn) → conn s n ≡ Some k → conn t n ≡ Some j → came_of j ≡ came_of k
came_same s t apart given along n k j there behind = came_still n (came_of k) j t (along n (came_of k) (came_at n k s (apart n) (given n k j there behind) there)) behind

-- ---- of the program

pub start : (number : ℕ → ℕ) (p : Parts) (s : State) → ShowsFlow number none_leaves p.flow s → Holds AnySeat AnyEntry (IsAsBefore p.flow) AnyMemory p
start number p s shows = record { seats = λ i seat at. tt; waiting = any_entries p.flow.waiting; placed = all_as_before number p.flow s shows; memory = tt }

-- from one that a lawful log leads to
pub counted_on : (terms : List Term) (before : Log) (number later : ℕ → ℕ) (f g : Exchanges) (s t : State) → Obeys terms s before → ShowsFlow number none_leaves f s → ShowsFlow later none_leaves g t → AllOf (IsAsBefore f) g.placed → ((n c : ℕ) → Came n c s → Came n c t)
    → ((n : ℕ) (k : Conn) → conn s n ≡ Some k → IsCountedOn f k) → (n : ℕ) (k : Conn) → conn t n ≡ Some k → IsCountedOn g k
counted_on terms before number later f g s t obeys shows behind bodies along counted =
    let sound : IsSoundTurn s = sound_turns terms s before obeys in
    counted_behind number later f g s t shows behind bodies (came_same s t sound.apart.conns (λ n k j there behind. given_at s sound n k there) along) counted

-- ---- decisions

module _ (terms : List Term) (shelf : KeptMap) where
  pub decisions_count : StaysInDecisions terms shelf AreCounted
  decisions_count = record {
    taken = λ before i due p x y log s seat c at h next takes well then.
        counted_on terms before at.stands.number then.stands.number p.flow y.desk.state.flow s (behind_taken seat.client.id due s) at.obeys at.stands.stands.turn.steps.shows.exchanges then.stands.stands.turn.steps.shows.exchanges
        (one_fine AnySeat AnyEntry (IsAsBefore p.flow) AnyMemory (bodies_suit p.flow) i (Decide due) x y log takes
        (found_fine AnySeat AnyEntry (IsAsBefore p.flow) AnyMemory (bodies_suit p.flow) shelf p.awake.items p x.desk.state (Some (i, Decide due)) next.first (start at.stands.number (parts p) s at.stands.stands.turn.steps.shows.exchanges))).placed
        (λ n k. taken_any (Came n k) (any_came n k) seat.client.id due s) h;
    cut = λ before i cause p x y log s seat c at h next takes well then.
        counted_on terms before at.stands.number then.stands.number p.flow y.desk.state.flow s (behind_cut seat.client.id s) at.obeys at.stands.stands.turn.steps.shows.exchanges then.stands.stands.turn.steps.shows.exchanges
        (one_fine AnySeat AnyEntry (IsAsBefore p.flow) AnyMemory (bodies_suit p.flow) i (CutOff cause) x y log takes
        (found_fine AnySeat AnyEntry (IsAsBefore p.flow) AnyMemory (bodies_suit p.flow) shelf p.awake.items p x.desk.state (Some (i, CutOff cause)) next.first (start at.stands.number (parts p) s at.stands.stands.turn.steps.shows.exchanges))).placed
        (λ n k. cut_any (Came n k) (any_came n k) seat.client.id s) h;
    none = λ before peers p q s at h none well then.
        counted_on terms before at.stands.number then.stands.number p.flow q.flow s s at.obeys at.stands.stands.turn.steps.shows.exchanges then.stands.stands.turn.steps.shows.exchanges
        (found_fine AnySeat AnyEntry (IsAsBefore p.flow) AnyMemory (bodies_suit p.flow) shelf p.awake.items p q None none (start at.stands.number (parts p) s at.stands.stands.turn.steps.shows.exchanges)).placed
        (λ n k came. came) h;
  }

-- ---- connections are closed

pub closings_count : (terms : List Term) (shelf : KeptMap) (before : Log) (number : ℕ → ℕ) (x y : Moving) (log : Log) (s t : State) → Obeys terms s before → StandsAmid number shelf x s → AreCounted x.desk.state s → s.phase ≡ Connecting → ClosesOver x log y → Leads log s t → StandsAmid number shelf y t
    → AreCounted y.desk.state t
closings_count terms shelf before number x y log s t obeys amid h phase over leads then =
    counted_on terms before number number x.desk.state.flow y.desk.state.flow s t obeys amid.turn.steps.shows.exchanges then.turn.steps.shows.exchanges
    (closed_fine AnySeat AnyEntry (IsAsBefore x.desk.state.flow) AnyMemory (bodies_suit x.desk.state.flow) x y log over (start number (parts x.desk.state) s amid.turn.steps.shows.exchanges)).placed
    (λ n k. closings_fine (Came n k) (any_came n k) (put_came n k) log s t (subst (λ (hs : Log). AreClosings hs) (sym over.log_is) (all_close (all_over x.desk) x.links)) (record { at = phase; none = amid.none }) leads) h

-- ---- without a word

unseen_top : (s : State) → (drop_unseen (in_phase Connecting s)).top ≡ s.top
unseen_top s = ap (λ (o : Frame). o.top) (frame_of {all = true} (drop_unseen-stays {all = true} {o = frame true (in_phase Connecting s)} (in_phase Connecting s) (stays refl)))

module _ (terms : List Term) (shelf : KeptMap) (before : Log) (number : ℕ → ℕ) (x : Moving) (seen given asked : Desk) (s : State) (amid : StandsAmid number shelf x s) (may : MayClose s) (counted : AreCounted x.desk.state s) (drops : Becomes without_unseen x.desk seen) (gives : GivesUp seen given) (fills : Fills given asked)
    (later : Obeys terms (followed s) before) (then : StandsAmid number shelf (with_desk asked x) (followed s)) where
  abbrev dropped : Sides
  dropped = without_unseen (sides x.desk)

  abbrev v : State
  v = drop_unseen (in_phase Connecting s)

  shows : ShowsSides number x.desk.state.name.items dropped v
  shows = unseen number shelf x seen given asked s amid may counted drops gives fills

  bodies : AllOf (IsAsBefore dropped.parts.flow) asked.state.flow.placed
  bodies =
      (behind_unseen number shelf x seen given asked s amid may counted drops gives fills AnySeat AnyEntry (IsAsBefore dropped.parts.flow) AnyMemory (bodies_suit dropped.parts.flow) (start number dropped.parts v shows.steps.shows.exchanges)).placed

  same_top : (followed s).top ≡ v.top
  same_top = ap (λ (o : Frame). o.top) (asked_frame s) ∙ sym (unseen_top s)

  pub silence_counts : AreCounted asked.state (followed s)
  silence_counts =
      counted_behind number number dropped.parts.flow asked.state.flow v (followed s) shows.steps.shows.exchanges then.turn.steps.shows.exchanges bodies
      (came_same v (followed s) shows.may.apart (λ n k j there behind. subst (λ (m : ℕ). n ≤ m) same_top (given_at (followed s) (sound_turns terms (followed s) before later) n j behind))
      (λ n c came. fill_any (Came n c) (any_came n c) (give_up_asks v) (given_up_any (Came n c) (any_came n c) v came)))
      (told number shelf x seen given asked s amid may counted drops gives fills).counted
