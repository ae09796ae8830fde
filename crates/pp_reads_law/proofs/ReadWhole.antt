-- A whole read is what the law gets, piece by piece.
use Rattle.std.proofs.Common.{◌≡◌, ◌⊎◌, inl, inr, ◌≤◌, ◌<◌, refl, sym, subst, ap, ◌∙◌, ℕ, zero, suc, pred, ◌+◌, ◌*◌, Bool, true, false, not, ◌==◌, ◌||◌, cond, drop, find, length, List, [], ◌∷◌, Option, Some, None, arith}
use Rattle.std.proofs.lemmas.List.{length-drop}
use Rattle.pp_cache_law.proofs.Numbers.{some_is}
use Rattle.pp_turns_law.proofs.Peers.{HasPeer, linked}
use Rattle.pp_turns_law.specs.Sides.{ShowsSides}
use Rattle.pp_flow_law.proofs.Entries.{none_some}
use Rattle.pp_framing.specs.Body.{Outcome, Done, Going, Bad as NoBody}
use Rattle.pp_framing.specs.Rules.{body_of}
use Rattle.pp_law.specs.Connections.{close_conn, conn, front_of_line, is_conn, is_outstanding}
use Rattle.pp_law.specs.Lists.{Bytes, is_some_with}
use Rattle.pp_law.specs.OwnHeads.{is_wrong_head}
use Rattle.pp_law.specs.Responses.{Piece, answer_with, body_piece, end_if_empty, finish, got, head_came, head_piece, is_early, next_piece}
use Rattle.pp_law.specs.State.{State, Answer, Conn, Exchange}
use Rattle.pp_laws_replies.proofs.Quiet.{facts_of, quiet_same}
use Rattle.pp_laws_replies.proofs.QuietHeads.{got-quiet}
use Rattle.pp_origins.specs.Gots.{Both, GotFrom, IsStepOn, Remains, going_on, left_behind, remaining, sides_of}
use Rattle.pp_peers.specs.Peers.{is_number}
use Rattle.pp_peers.specs.declared.peers.Peer.{Peer}
use Rattle.pp_peers_law.specs.Peers.{ShowConns}
use Rattle.pp_pipe.specs.declared.step.Step.{Step}
use Rattle.pp_pipe.specs.declared.step.Step.TheVariants.{Head, Body as BodyStep, End, Bad, Idle}
use Rattle.pp_state.specs.Ends.{parts}
use Rattle.pp_store.specs.Kept.{KeptMap}
use Rattle.pp_reads_law.proofs.Amid.{begins, got_step, pieces_got}
use Rattle.pp_reads_law.proofs.Early.{early_steps}
use Rattle.pp_reads_law.proofs.Gotten.{closed_got}
use Rattle.pp_reads_law.proofs.Nothing.{empty_steps}
use Rattle.pp_reads_law.proofs.ReadOn.{steps}
use Rattle.pp_reads_law.proofs.ReadsTold.{cleared_told, empty_told, piece_told, stop_told, taken_told}
use Rattle.pp_reads_law.specs.Awaits.{ComesEarly}
use Rattle.pp_reads_law.specs.Bads.{IsDue, IsOpen}
use Rattle.pp_reads_law.specs.Data.{MayGo}
use Rattle.pp_reads_law.specs.Gots.{StopsThere}
use Rattle.pp_reads_law.specs.Heads.{HeadIsDue, HeadIsTaken, HeadLeads, HeadsComeAsTheLaws, begun_by}
use Rattle.pp_reads_law.specs.Pieces.{GoesOnAmid, IsAmidBody, IsWithinBody, LeavesBytes, PieceIsOver, data_in}
use Rattle.pp_reads_law.proofs.Cleared.{heads_got_there}
use Rattle.pp_reads_law.proofs.EndsThere.{empties_end, empty_or_going, shows_there}
use Rattle.pp_reads_law.proofs.Still.{pauses}
use Rattle.pp_reads_law.specs.Clears.{HeadIsGotThere}
use Rattle.pp_reads_law.specs.Empties.{EndsAtOnce}
use Rattle.pp_reads_law.specs.Pauses.{StandsStill}
use Rattle.pp_reads_law.specs.Stops.{EndsAt, IsShut, StaysUnread}
use Rattle.pp_reads_law.specs.Reads.{IsAwaited, IsReadTo, Passes, ReadsAreGotAsTheLaws, StandsThere, Supplies, SuppliesBody, SuppliesHead}
use Rattle.pp_reads_law.specs.Told.{IsToldAt, StaysTold}

-- ---- nothing is got of no bytes, nor on a connection that is closing

got_nothing : (m n : ℕ) (t : State) → got m n [] t ≡ t
unfolding got
got_nothing zero n t = refl
got_nothing (suc m) n t = by (conn t n)
  where
    stop : (j : Conn) (c : Bool) → (elim (c || true) as (λ u. State) [ true ↦ t | false ↦ got m n (next_piece j [] t).rest (next_piece j [] t).state ]) ≡ t
    stop j true = refl
    stop j false = refl

    by : (o : Option Conn) → (elim o as (λ u. State) [ None ↦ t | Some j ↦ elim (j.is_closing || true) as (λ u. State) [ true ↦ t | false ↦ got m n (next_piece j [] t).rest (next_piece j [] t).state ] ]) ≡ t
    by None = refl
    by (Some j) = stop j j.is_closing

-- ---- of the program

stopped : (m n : ℕ) (shelf : KeptMap) (z y : Both) → GotFrom m shelf n None z y → y ≡ z
unfolding GotFrom
stopped zero n shelf z y run = run
stopped (suc m) n shelf z y run = run

none_there : (n : ℕ) (s : State) (ps : List Peer) (ks : List Conn) → ShowConns s ps ks → find (is_conn n) ks ≡ None → find (is_number n) ps ≡ None
none_there n s [] [] shows none = refl
none_there n s [] (k ∷ ks) shows none = absurd shows
none_there n s (p ∷ ps) [] shows none = absurd shows
none_there n s (p ∷ ps) (k ∷ ks) shows none = by (is_number n p) (is_conn n k) (ap (λ (m : ℕ). m == n) shows.0.number) none (λ rest. none_there n s ps ks shows.1 rest)
  where
    by : (b c : Bool) → b ≡ c → cond c (Some k) (find (is_conn n) ks) ≡ None → (find (is_conn n) ks ≡ None → find (is_number n) ps ≡ None) → cond b (Some p) (find (is_number n) ps) ≡ None
    by true true same is rest = absurd (cc is)
    by true false same is rest = absurd (cc same)
    by false true same is rest = absurd (cc same)
    by false false same is rest = rest is

not_longer : (n : ℕ) (shelf : KeptMap) (o : Option Peer) (here later : Remains) (z next : Both) (behind : Option Remains) → behind ≡ Some later → IsStepOn o shelf n here z next behind → length later.bytes ≤ length here.bytes
not_longer n shelf None here later z next behind is on = absurd (none_some later (sym on.1 ∙ is))
not_longer n shelf (Some p) here later z next behind is on = by on.told.0 on.told.1 (sym is ∙ on.leaves)
  where
    short : (used : ℕ) → later.bytes ≡ drop used here.bytes → length later.bytes ≤ length here.bytes
    short used same = omega (arith, ap (λ (bs : Bytes). length bs) same, length-drop used here.bytes)

    by : (used : ℕ) (step : Step) → Some later ≡ left_behind used step here → length later.bytes ≤ length here.bytes
    by used Head leaves = short used (ap (λ (r : Remains). r.bytes) (some_is later _ leaves))
    by used (BodyStep from to) leaves = short used (ap (λ (r : Remains). r.bytes) (some_is later _ leaves))
    by used End leaves = short used (ap (λ (r : Remains). r.bytes) (some_is later _ leaves))
    by used Bad leaves = absurd (none_some later (sym leaves))
    by used Idle leaves = absurd (none_some later (sym leaves))

-- ---- the first of a line was asked whole

record HasFirst (s : State) (k : Conn) : Type 0 where
  first : Exchange
  front : front_of_line s k ≡ Some first
  whole : is_outstanding first ≡ true

not_early : (s : State) (k : Conn) → is_early s k ≡ false → HasFirst s k
not_early s k off = by (front_of_line s k) refl off
  where
    at : (e : Exchange) (b : Bool) → front_of_line s k ≡ Some e → is_outstanding e ≡ b → not b ≡ false → HasFirst s k
    at e true is whole same = record { first = e; front = is; whole = whole }
    at e false is whole same = absurd (cc same)

    by : (o : Option Exchange) → front_of_line s k ≡ o → not (is_some_with is_outstanding o) ≡ false → HasFirst s k
    by None is same = absurd (cc same)
    by (Some e) is same = at e (is_outstanding e) is refl same

-- ---- one piece behind the other

module _ (comes : HeadsComeAsTheLaws) (name : Bytes) (shelf : KeptMap) (n : ℕ) (y : Both) (I : Both → State → Bytes → Type 0) (sup : Supplies name shelf n y I) where
  abbrev Ends : (ℕ → ℕ) → Both → State → Bytes → Type 0
  Ends number x s bytes = IsReadTo I name shelf n number x s y (got (length bytes) n bytes s)

  abbrev Between : ℕ → Type 0
  Between most = (number : ℕ → ℕ) (x : Both) (s : State) (bytes : Bytes) → I x s bytes → ShowsSides number name (sides_of x) s → 2 * length bytes + 1 < most → GotFrom most shelf n (Some (remaining bytes [])) x y → Ends number x s bytes

  abbrev Amid : ℕ → Type 0
  Amid most = (number : ℕ → ℕ) (x z : Both) (s : State) (k : Conn) (a : Answer) (peer : Peer) (e : Exchange) (b : ℕ) (bytes : Bytes) (here : Remains) → I x s (b ∷ bytes) → ShowsSides number name (sides_of x) s → IsOpen s n k → k.answer ≡ Some a → IsWithinBody x s n k a peer e
      → MayGo x.state s e (data_in a (b ∷ bytes)) → IsAmidBody x z n peer a (b ∷ bytes) here → 2 * length here.bytes + 1 < most → ((r : ℕ) → r ≤ length here.bytes → r < length (b ∷ bytes) → 2 * r + 2 < most) → GotFrom most shelf n (Some here) z y → Ends number x s (b ∷ bytes)

  -- the read is over, or a piece follows
  over : (number : ℕ → ℕ) (m : ℕ) (x next : Both) (s t : State) (bytes : Bytes) (behind : Option Remains) → behind ≡ None → GotFrom m shelf n behind next y → got (length bytes) n bytes s ≡ t → ShowsSides number name (sides_of next) t → EndsAt I name shelf n next t → StaysTold number (parts x.state) s number (parts next.state) t → Ends number x s bytes
  over number m x next s t bytes behind none run law shown ends told = record {
    number = number;
    ends =
        subst (λ (u : State). EndsAt I name shelf n y u) (sym law)
        (subst (λ (z : Both). EndsAt I name shelf n z t) (sym (stopped m n shelf next y (subst (λ (o : Option Remains). GotFrom m shelf n o next y) none run))) ends);
    shows =
        subst (λ (u : State). ShowsSides number name (sides_of y) u) (sym law)
        (subst (λ (z : Both). ShowsSides number name (sides_of z) t) (sym (stopped m n shelf next y (subst (λ (o : Option Remains). GotFrom m shelf n o next y) none run))) shown);
    told = λ i one.
        subst (λ (u : State). IsToldAt i number (parts y.state) u) (sym law)
        (subst (λ (z : Both). IsToldAt i number (parts z.state) t) (sym (stopped m n shelf next y (subst (λ (o : Option Remains). GotFrom m shelf n o next y) none run))) (told i one));
  }

  follows : (before number : ℕ → ℕ) (m less : ℕ) (x next : Both) (s t : State) (bytes rest : Bytes) (behind : Option Remains) → Between m → behind ≡ Some (remaining rest []) → GotFrom m shelf n behind next y → got (length bytes) n bytes s ≡ got less n rest t → length rest ≤ less → I next t rest
      → ShowsSides number name (sides_of next) t → 2 * length rest + 1 < m → StaysTold before (parts x.state) s number (parts next.state) t → Ends before x s bytes
  follows before number m less x next s t bytes rest behind between leaves run law enough holds shown fuel told =
      let one : Ends number next t rest = between number next t rest holds shown fuel (subst (λ (o : Option Remains). GotFrom m shelf n o next y) leaves run) in
      let same : got (length bytes) n bytes s ≡ got (length rest) n rest t = law ∙ sup.enough less next t rest holds enough in
      record {
        number = one.number;
        shows = subst (λ (u : State). ShowsSides one.number name (sides_of y) u) (sym same) one.shows;
        ends = subst (λ (u : State). EndsAt I name shelf n y u) (sym same) one.ends;
        told = λ i was. subst (λ (u : State). IsToldAt i one.number (parts y.state) u) (sym same) (one.told i (told i was));
      }

  -- ---- amid a body

  amid_next : (m : ℕ) → Between m → Amid m → Amid (suc m)
  unfolding GotFrom
  amid_next m between amid number x z s k a peer e b bytes here holds shows opens has it may on fuel room run =
      by (steps number name shelf x z run.0 s n k a peer e (b ∷ bytes) here run.1 shows it may on run.2)
    where
      law : got (length (b ∷ bytes)) n (b ∷ bytes) s ≡ got (length bytes) n (body_piece k a (b ∷ bytes) s).rest (body_piece k a (b ∷ bytes) s).state
      law = pieces_got (length bytes) n b bytes s k a opens has

      fewer : length (body_piece k a (b ∷ bytes) s).rest < length (b ∷ bytes)
      fewer = sup.fewer x s k a b bytes holds opens has

      behind_it : PieceIsOver number name run.0 s k a (b ∷ bytes) run.1 → I run.0 (body_piece k a (b ∷ bytes) s).state (body_piece k a (b ∷ bytes) s).rest
      behind_it piece = sup.behind number x z run.0 s k a peer e b bytes here run.1 m holds shows it may on run.2 run.3 piece

      told_behind : PieceIsOver number name run.0 s k a (b ∷ bytes) run.1 → StaysTold number (parts x.state) s number (parts run.0.state) (body_piece k a (b ∷ bytes) s).state
      told_behind piece = piece_told number name shelf x z run.0 s n k a peer e (b ∷ bytes) here run.1 shows it may on run.2 piece

      ends : (o : Option Remains) → run.1 ≡ o → LeavesBytes o (body_piece k a (b ∷ bytes) s).rest → PieceIsOver number name run.0 s k a (b ∷ bytes) run.1 → Ends number x s (b ∷ bytes)
      ends None is none piece = over number m x run.0 s (body_piece k a (b ∷ bytes) s).state (b ∷ bytes) run.1 is run.3 (law ∙ ap (λ (bs : Bytes). got (length bytes) n bs (body_piece k a (b ∷ bytes) s).state) none ∙ got_nothing (length bytes) n (body_piece k a (b ∷ bytes) s).state) piece.shows
          (record { x = run.0; s = (body_piece k a (b ∷ bytes) s).state; bytes = (body_piece k a (b ∷ bytes) s).rest; holds = behind_it piece; last = inl (refl, refl) }) (told_behind piece)
      ends (Some later) is same piece =
          let long : length later.bytes ≤ length here.bytes = not_longer n shelf (going_on (find (is_number n) z.peers)) here later z run.0 run.1 is run.2 in
          let low : length (body_piece k a (b ∷ bytes) s).rest ≤ length here.bytes = subst (λ (r : Remains). length r.bytes ≤ length here.bytes) same long in
          follows number number m (length bytes) x run.0 s (body_piece k a (b ∷ bytes) s).state (b ∷ bytes) (body_piece k a (b ∷ bytes) s).rest run.1 between (is ∙ ap (λ (r : Remains). Some r) same) run.3 law (omega (arith, fewer))
          (behind_it piece) piece.shows (omega (arith, room (length (body_piece k a (b ∷ bytes) s).rest) low fewer)) (told_behind piece)

      by : GoesOnAmid x run.0 n peer a (b ∷ bytes) here run.1 ⊎ PieceIsOver number name run.0 s k a (b ∷ bytes) run.1 → Ends number x s (b ∷ bytes)
      by (inl later) =
          amid number x run.0 s k a peer e b bytes later.later holds shows opens has it may later.amid (omega (arith, fuel, later.fewer)) (λ r low small. omega (arith, fuel, low, later.fewer))
          (subst (λ (o : Option Remains). GotFrom m shelf n o run.0 y) later.leaves run.3)
      by (inr piece) = ends run.1 refl piece.leaves piece

  -- ---- a final head came

  module _ (number : ℕ → ℕ) (m : ℕ) (between : Between m) (below : (j : ℕ) → m ≡ suc j → Between j) (x next : Both) (s : State) (k : Conn) (e : Exchange) (b : ℕ) (bytes : Bytes) (behind : Option Remains) (holds : I x s (b ∷ bytes)) (none : k.answer ≡ None) (named : s.settings.name ≡ name) (fuel : 2 * length (b ∷ bytes) + 1 < suc m) (run : GotFrom m shelf n behind next y)
      (it : HeadIsGotThere number shelf x next s n k e (b ∷ bytes) behind) where
    abbrev given : SuppliesHead shelf n y I next s e (b ∷ bytes) behind it.there.begin it.there.then it.there.before it.there.peer it.got
    given = sup.heads number x next s k e (b ∷ bytes) behind m holds none run it.there it.got

    abbrev rest : Bytes
    rest = it.got.rest

    abbrev then : State
    then = it.there.then

    abbrev t : State
    t = head_came it.there.before it.got.head then

    own_name : then.settings.name ≡ name
    own_name = it.there.named ∙ named

    at_name : (number1 : ℕ → ℕ) (z : Both) (u : State) → ShowsSides number1 then.settings.name (sides_of z) u → ShowsSides number1 name (sides_of z) u
    at_name number1 z u shown = subst (λ (own : Bytes). ShowsSides number1 own (sides_of z) u) own_name shown

    -- what stands before the head
    told_before : StaysTold number (parts x.state) s number (parts it.there.begin.state) then
    told_before = cleared_told number x.state it.there.begin.state s then n k it.there.before it.there.state it.there.stands

    goes_on : (number1 : ℕ → ℕ) → ShowsSides number1 then.settings.name (sides_of next) t → I next t rest → StaysTold number (parts it.there.begin.state) then number1 (parts next.state) t → Ends number x s (b ∷ bytes)
    goes_on number1 shown holds_then told =
        follows number number1 m it.got.less x next s t (b ∷ bytes) rest behind between it.got.leaves run it.got.law it.got.enough holds_then (at_name number1 next t shown) (omega (arith, fuel, it.got.fewer)) (λ i was. told i (told_before i was))

    taken_at : (taken : HeadIsTaken number it.there.begin next then n it.there.before e it.got.head it.got.rule) → is_wrong_head e it.got.head ≡ false → ((body_of it.got.rule []).outcome ≡ Going) ⊎ ((body_of it.got.rule []).outcome ≡ Done []) → Ends number x s (b ∷ bytes)
    unfolding GotFrom end_if_empty
    taken_at taken right (inl going) = goes_on taken.number shown (given.holds taken.number shown (inr going)) (taken_told number it.there.begin next then n it.there.before e it.got.head it.got.rule taken)
      where
        shown : ShowsSides taken.number then.settings.name (sides_of next) t
        shown =
            subst (λ (u : State). ShowsSides taken.number then.settings.name (sides_of next) u)
            (sym
            (taken.law
            ∙ ap (λ (o : Outcome). elim o as (λ u. State) [
              | Done r ↦ finish it.there.before e (answer_with e it.got.head it.got.rule) (begun_by it.there.before e it.got.head it.got.rule then)
              | Going ↦ begun_by it.there.before e it.got.head it.got.rule then
              | NoBody ↦ begun_by it.there.before e it.got.head it.got.rule then
            ]) going))
            (shows_there number shelf it.there.begin next then n it.there.before e it.there.peer it.got.head it.got.rule it.there.shows.may it.there.due taken (given.end right))
    taken_at taken right (inr done) = by m refl (subst (λ (o : Option Remains). GotFrom m shelf n o next y) it.got.leaves run)
      where
        by : (i : ℕ) → m ≡ i → GotFrom i shelf n (Some (remaining rest [])) next y → Ends number x s (b ∷ bytes)
        by zero is last = absurd (omega (arith, fuel, is))
        by (suc j) is last =
            let one : EndsAtOnce taken.number last.0 then it.there.before it.got.head rest last.1 =
            empties_end number shelf it.there.begin next last.0 then n it.there.before e it.there.peer it.got.head it.got.rule [] rest last.1 it.there.shows.may it.there.due taken (given.end right) done last.2 in
            follows number taken.number j it.got.less x last.0 s t (b ∷ bytes) rest last.1 (below j is) one.leaves last.3 it.got.law it.got.enough (given.ends taken.number last.0 last.1 j one.shows right done last.2 last.3) (at_name taken.number last.0 t one.shows)
            (omega (arith, fuel, is, it.got.fewer))
            (λ i was. empty_told number it.there.begin next then n it.there.before e it.got.head it.got.rule taken shelf it.there.peer it.there.shows.may it.there.due (given.end right) last.0 [] rest last.1 done last.2 one.shows i (told_before i was))

    head_got : Ends number x s (b ∷ bytes)
    head_got =
        by (is_wrong_head e it.got.head) refl
        (comes number shelf it.there.begin next then n it.there.before e it.there.peer it.got.head it.got.rule it.got.left it.there.shows it.there.due it.got.read given.may it.got.came given.given given.refused given.straight)
      where
        by : (c : Bool) → is_wrong_head e it.got.head ≡ c → HeadLeads number c it.there.begin next then n it.there.before e it.got.head it.got.rule → Ends number x s (b ∷ bytes)
        by true is refused = goes_on refused.number refused.shows (given.holds refused.number refused.shows (inl is)) refused.told
        by false is taken = taken_at taken is (empty_or_going it.got.rule)

  -- ---- between two pieces

  module _ (number : ℕ → ℕ) (m : ℕ) (between : Between m) (amid_more : Amid (suc m)) (below : (j : ℕ) → m ≡ suc j → Between j) (x : Both) (s : State) (shows : ShowsSides number name (sides_of x) s) where
    -- none, or it is closing
    gone : (bytes : Bytes) → I x s bytes → going_on (find (is_number n) x.peers) ≡ None → got (length bytes) n bytes s ≡ s → GotFrom (suc m) shelf n (Some (remaining bytes [])) x y → Ends number x s bytes
    unfolding GotFrom
    gone bytes holds none law run =
        let on : (run.0 ≡ x) × (run.1 ≡ None) = subst (λ (o : Option Peer). IsStepOn o shelf n (remaining bytes []) x run.0 run.1) none run.2 in
        over number m x run.0 s s bytes run.1 on.1 run.3 law (subst (λ (z : Both). ShowsSides number name (sides_of z) s) (sym on.0) shows) (record { x = x; s = s; bytes = bytes; holds = holds; last = inl (on.0, refl) })
        (λ i was. subst (λ (z : Both). IsToldAt i number (parts z.state) s) (sym on.0) was)

    -- it ends by this step
    stop_at : (k : Conn) (bytes : Bytes) (next : Both) (t : State) (behind : Option Remains) → IsOpen s n k → I x s bytes → IsStepOn (going_on (find (is_number n) x.peers)) shelf n (remaining bytes []) x next behind → behind ≡ None → StaysUnread x s n next t ⊎ IsShut x s n k next t → EndsAt I name shelf n next t
    stop_at k bytes next t behind opens holds on none way = record {
      x = x;
      s = s;
      bytes = bytes;
      holds = holds;
      last = inr (record { number = number; shows = shows; conn = k; on = opens; step = subst (λ (o : Option Remains). IsStepOn (going_on (find (is_number n) x.peers)) shelf n (remaining bytes []) x next o) none on; way = way });
    }

    stop_tells : (k : Conn) (bytes : Bytes) (next : Both) (t : State) → got (length bytes) n bytes s ≡ t → ShowsSides number name (sides_of next) t → StaysUnread x s n next t ⊎ IsShut x s n k next t → StaysTold number (parts x.state) s number (parts next.state) t
    stop_tells k bytes next t law shown way = stop_told number name x next s t n k shows shown (subst (λ (u : State). s.next_instance ≤ u.next_instance) law (facts_of (got-quiet (length bytes) n bytes s (quiet_same s))).next) way

    -- no byte is left
    at_end : (k : Conn) (o : Option Answer) → IsOpen s n k → k.answer ≡ o → I x s [] → GotFrom (suc m) shelf n (Some (remaining [] [])) x y → Ends number x s []
    unfolding GotFrom
    at_end k None opens has holds run =
        let own : HasPeer s n x.peers k = linked s n x.peers s.conns k opens.there shows.steps.shows.conns in
        let one : (run.1 ≡ None) × (run.0 ≡ x) = empty_steps number name shelf x run.0 s n k own.peer run.1 shows opens own.there has run.2 in
        over number m x run.0 s s [] run.1 one.0 run.3 (got_nothing 0 n s) (subst (λ (z : Both). ShowsSides number name (sides_of z) s) (sym one.1) shows)
        (record { x = x; s = s; bytes = []; holds = holds; last = inl (one.1, refl) }) (λ i was. subst (λ (z : Both). IsToldAt i number (parts z.state) s) (sym one.1) was)
    at_end k (Some a) opens has holds run =
        let body : SuppliesBody x s n k a [] = sup.bodies x s k a [] holds opens has in
        let one : StandsStill number name x run.0 s run.1 = pauses number name shelf x run.0 s n k a body.peer run.1 shows opens body.within.on.linked has body.going run.2 in
        let way : StaysUnread x s n run.0 s ⊎ IsShut x s n k run.0 s = inl (record { same = one.same; law = inl refl }) in
        over number m x run.0 s s [] run.1 one.leaves run.3 (got_nothing 0 n s) one.shows (stop_at k [] run.0 s run.1 opens holds run.2 one.leaves way) (stop_tells k [] run.0 s (got_nothing 0 n s) one.shows way)

    -- a head is awaited
    at_head : (k : Conn) (b : ℕ) (bytes : Bytes) (early : Bool) → IsOpen s n k → k.answer ≡ None → is_early s k ≡ early → I x s (b ∷ bytes) → 2 * length (b ∷ bytes) + 1 < suc m → GotFrom (suc m) shelf n (Some (remaining (b ∷ bytes) [])) x y → Ends number x s (b ∷ bytes)
    unfolding GotFrom
    at_head k b bytes true opens has early holds fuel run =
        let own : HasPeer s n x.peers k = linked s n x.peers s.conns k opens.there shows.steps.shows.conns in
        let one : ComesEarly number name x run.0 s n k (b ∷ bytes) run.1 = early_steps number name shelf x run.0 s n k own.peer b bytes run.1 shows opens own.there has early run.2 in
        let law : got (length (b ∷ bytes)) n (b ∷ bytes) s ≡ close_conn true k s =
        got_step (length bytes) n b bytes s k opens
        ∙ ap (λ (o : Option Answer). let p : Piece = elim o as (λ p. Piece) [ Some c ↦ body_piece k c (b ∷ bytes) s | None ↦ head_piece k (b ∷ bytes) s ] in got (length bytes) n p.rest p.state) has
        ∙ ap (λ (p : Piece). got (length bytes) n p.rest p.state) one.law
        ∙ got_nothing (length bytes) n (close_conn true k s) in
        let way : StaysUnread x s n run.0 (close_conn true k s) ⊎ IsShut x s n k run.0 (close_conn true k s) = inr (record { quiet = has; line = one.line; makes = one.makes; law = inr (record { early = early; law = refl }) }) in
        over number m x run.0 s (close_conn true k s) (b ∷ bytes) run.1 one.leaves run.3 law one.shows (stop_at k (b ∷ bytes) run.0 (close_conn true k s) run.1 opens holds run.2 one.leaves way) (stop_tells k (b ∷ bytes) run.0 (close_conn true k s) law one.shows way)
    at_head k b bytes false opens has early holds fuel run =
        by
        (heads_got_there number shelf x run.0 s n k first.first own.peer b bytes run.1 stands.shows due
        (record { there = opens.there; goes_on = opens.goes_on; none = has; due = early; unread = awaits.unread }) run.2)
      where
        stands : StandsThere number name shelf x s
        stands = sup.stands number x s (b ∷ bytes) holds shows

        own : HasPeer s n x.peers k
        own = linked s n x.peers s.conns k opens.there shows.steps.shows.conns

        first : HasFirst s k
        first = not_early s k early

        is_due : IsDue s n k first.first
        is_due = record { on = opens; front = first.front; whole = first.whole }

        awaits : IsAwaited k first.first
        awaits = sup.awaits x s (b ∷ bytes) k first.first holds is_due has

        due : HeadIsDue x s n k first.first own.peer
        due = record { due = is_due; none = awaits.none; linked = own.there }

        by : StopsThere number x run.0 s n k (b ∷ bytes) run.1 ⊎ HeadIsGotThere number shelf x run.0 s n k first.first (b ∷ bytes) run.1 → Ends number x s (b ∷ bytes)
        by (inl stops) =
            let shown : ShowsSides number name (sides_of run.0) (got (length (b ∷ bytes)) n (b ∷ bytes) s) = subst (λ (own : Bytes). ShowsSides number own (sides_of run.0) (got (length (b ∷ bytes)) n (b ∷ bytes) s)) stands.named stops.shows in
            over number m x run.0 s (got (length (b ∷ bytes)) n (b ∷ bytes) s) (b ∷ bytes) run.1 stops.leaves run.3 refl shown
            (stop_at k (b ∷ bytes) run.0 (got (length (b ∷ bytes)) n (b ∷ bytes) s) run.1 opens holds run.2 stops.leaves stops.way) (stop_tells k (b ∷ bytes) run.0 (got (length (b ∷ bytes)) n (b ∷ bytes) s) refl shown stops.way)
        by (inr it) = head_got number m between below x run.0 s k first.first b bytes run.1 holds has stands.named fuel run.3 it

    -- a body goes on
    at_body : (k : Conn) (a : Answer) (b : ℕ) (bytes : Bytes) → IsOpen s n k → k.answer ≡ Some a → I x s (b ∷ bytes) → 2 * length (b ∷ bytes) + 1 < suc m → GotFrom (suc m) shelf n (Some (remaining (b ∷ bytes) [])) x y → Ends number x s (b ∷ bytes)
    at_body k a b bytes opens has holds fuel run =
        let body : SuppliesBody x s n k a (b ∷ bytes) = sup.bodies x s k a (b ∷ bytes) holds opens has in
        amid_more number x x s k a body.peer body.exchange b bytes (remaining (b ∷ bytes) []) holds shows opens has body.within body.may
        (begins number name x s n k a body.peer body.exchange (b ∷ bytes) shows body.within) fuel (λ r low small. omega (arith, fuel, small)) run

    at_open : (k : Conn) (o : Option Answer) (bytes : Bytes) → IsOpen s n k → k.answer ≡ o → I x s bytes → 2 * length bytes + 1 < suc m → GotFrom (suc m) shelf n (Some (remaining bytes [])) x y → Ends number x s bytes
    at_open k o [] opens has holds fuel run = at_end k o opens has holds run
    at_open k None (b ∷ bytes) opens has holds fuel run = at_head k b bytes (is_early s k) opens has refl holds fuel run
    at_open k (Some a) (b ∷ bytes) opens has holds fuel run = at_body k a b bytes opens has holds fuel run

    piece_next : (bytes : Bytes) → I x s bytes → 2 * length bytes + 1 < suc m → GotFrom (suc m) shelf n (Some (remaining bytes [])) x y → Ends number x s bytes
    piece_next bytes holds fuel run = by (conn s n) refl
      where
        at : (k : Conn) (c : Bool) → conn s n ≡ Some k → k.is_closing ≡ c → Ends number x s bytes
        at k true is closing =
            let own : HasPeer s n x.peers k = linked s n x.peers s.conns k is shows.steps.shows.conns in
            gone bytes holds (ap (λ (o : Option Peer). going_on o) own.there ∙ ap (λ (b : Bool). cond b None (Some own.peer)) (own.shows.is_closing ∙ closing))
            (closed_got (length bytes) n bytes s (λ j there. ap (λ (i : Conn). i.is_closing) (some_is j k (sym there ∙ is)) ∙ closing)) run
        at k false is opens = at_open k k.answer bytes (record { there = is; goes_on = opens }) refl holds fuel run

        by : (o : Option Conn) → conn s n ≡ o → Ends number x s bytes
        by None is =
            gone bytes holds (ap (λ (o : Option Peer). going_on o) (none_there n s x.peers s.conns shows.steps.shows.conns is)) (closed_got (length bytes) n bytes s (λ j there. absurd (none_some j (sym is ∙ there)))) run
        by (Some k) is = at k k.is_closing is refl

  -- ---- all of them

  record Claims (m : ℕ) : Type 0 where
    between : Between m
    amid : Amid m
    below : (j : ℕ) → m ≡ suc j → Between j

  claims : (m : ℕ) → Claims m
  claims zero = record {
    between = λ number x s bytes holds shows fuel run. absurd (omega (arith, fuel));
    amid = λ number x z s k a peer e b bytes here holds shows opens has it may on fuel room run. absurd (omega (arith, fuel));
    below = λ j is. absurd (omega (arith, is));
  }
  claims (suc m) =
      let one : Claims m = claims m in
      let amid_more : Amid (suc m) = amid_next m one.between one.amid in
      record {
        between = λ number x s bytes holds shows fuel run. piece_next number m one.between amid_more one.below x s shows bytes holds fuel run;
        amid = amid_more;
        below = λ j is. subst (λ (i : ℕ). Between i) (ap (λ (i : ℕ). pred i) is) one.between;
      }

  pub read_whole : (most : ℕ) → Between most
  read_whole most = (claims most).between

pub reads_got : HeadsComeAsTheLaws → ReadsAreGotAsTheLaws
reads_got comes number name shelf test x y s n bytes sup holds shows few run =
    let one : IsReadTo (Passes test) name shelf n number x s y (got (length bytes) n bytes s) = read_whole comes name shelf n y (Passes test) sup 65600 number x s bytes holds shows (omega (arith, few)) run in
    record { number = one.number; shows = one.shows }
