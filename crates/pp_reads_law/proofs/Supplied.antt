-- What each moment of a read rests on supplies what each of its pieces does.
use Rattle.std.proofs.Common.{◌≡◌, ◌⊎◌, inl, inr, refl, sym, subst, ap, ◌∙◌, ℕ, suc, false, find, length, [], ◌∷◌, Option, Some, None}
use Rattle.pp_cache.specs.Bounds.{IsBounded}
use Rattle.pp_turns_law.specs.Sides.{ShowsSides}
use Rattle.pp_events_law.proofs.Standing.{HasWords, turn_by}
use Rattle.pp_flow_law.specs.Tables.{none_leaves}
use Rattle.pp_framing.specs.Body.{Done}
use Rattle.pp_framing.specs.Rules.{body_of}
use Rattle.pp_law.specs.Lists.{Bytes}
use Rattle.pp_law.specs.OwnHeads.{is_wrong_head}
use Rattle.pp_law.specs.Responses.{body_piece, head_came}
use Rattle.pp_law.specs.State.{State, Answer, Conn, Exchange}
use Rattle.pp_obeys.proofs.Frames.{Frame, Stays, frame, frame_of, stays}
use Rattle.pp_origins.specs.Gots.{Both, GotFrom, IsStepOn, Remains, going_on, remaining, sides_of}
use Rattle.pp_peers.specs.Peers.{is_number}
use Rattle.pp_peers.specs.declared.peers.Peer.{Peer}
use Rattle.pp_reads_law.specs.Clears.{HeadIsGot, StandsBefore}
use Rattle.pp_reads_law.specs.Data.{MayGo}
use Rattle.pp_reads_law.specs.Heads.{IsGivenHead, with_head}
use Rattle.pp_reads_law.specs.Pieces.{IsAmidBody, IsWithinBody, PieceIsOver, data_in}
use Rattle.pp_reads_law.specs.Reads.{StandsThere, Supplies, SuppliesHead}
use Rattle.pp_state.specs.Ends.{parts}
use Rattle.pp_state.specs.Lines.{first_on}
use Rattle.pp_state.specs.declared.state.State.{State as Turn}
use Rattle.pp_states_law.specs.Steps.{ShowsSteps}
use Rattle.pp_store.specs.Kept.{KeptMap}
use Rattle.pp_reads_law.proofs.Calm.{head_given}
use Rattle.pp_reads_law.proofs.Framed.{framed_by, piece_framed}
use Rattle.pp_reads_law.proofs.Knows.{knows_same, knows_then}
use Rattle.pp_reads_law.proofs.StayReads.{head_stays, reads_stay, step_stays}
use Rattle.pp_reads_law.specs.Brings.{HeadRestsOn, IsBehindHead, IsBehindPiece, IsMoment, LeadsTo, ReadRestsOn, RestsOn}
use Rattle.pp_reads_law.specs.Stays.{KnowsAsMuch}

-- the cache is bounded behind each step
step_bounded : (o : Option Peer) (shelf : KeptMap) (k : ℕ) (here : Remains) (old new : Both) (behind : Option Remains) → IsStepOn o shelf k here old new behind → IsBounded old.state.cache → IsBounded new.state.cache
step_bounded None shelf k here old new behind on bounded = subst (λ (x : Both). IsBounded x.state.cache) (sym on.0) bounded
step_bounded (Some peer) shelf k here old new behind on bounded = on.bounded

module _ (name : Bytes) (shelf : KeptMap) (n : ℕ) (begins : Both) (from : State) (all : Bytes) (words : HasWords begins.state from) (own : begins.state.name.items ≡ name) (bounded_first : IsBounded begins.state.cache) (ends : Both) (calm : ends.state.is_astray ≡ false) (rests : ReadRestsOn name shelf n begins from all ends) where
  -- a moment, and what the turn and the law know at it is what they knew where the read began; the cache is bounded at each
  pub record Moment (x : Both) (s : State) (bytes : Bytes) : Type 0 where
    pub pieces : ℕ
    pub is : IsMoment pieces name shelf n begins from all x s bytes
    pub knows : KnowsAsMuch begins.state x.state
    pub framed : Stays false (frame false from) s
    pub bounded : IsBounded x.state.cache
    pub leads : LeadsTo shelf n x ends
    pub number : ℕ → ℕ
    pub shows : ShowsSides number name (sides_of x) s

  on : (x : Both) (s : State) (bytes : Bytes) → Moment x s bytes → RestsOn shelf n ends x s bytes
  on x s bytes m = rests m.pieces x s bytes m.is m.leads m.number m.shows

  pub first : LeadsTo shelf n begins ends → (number : ℕ → ℕ) → ShowsSides number name (sides_of begins) from → Moment begins from all
  unfolding IsMoment
  first leads number shows = record { pieces = 0; is = (refl, refl, refl); knows = knows_same begins.state; framed = stays refl; bounded = bounded_first; leads = leads; number = number; shows = shows }

  -- ---- what the turn shows

  of_frame : {A : Type 0} (g : Frame → A) (s : State) → Stays false (frame false from) s → g (frame false from) ≡ g (frame false s)
  of_frame g s framed = ap g (sym (frame_of framed))

  words_at : (x : Both) (s : State) → KnowsAsMuch begins.state x.state → Stays false (frame false from) s → HasWords x.state s
  words_at x s knows framed = record {
    name = knows.name ∙ words.name ∙ of_frame (λ f. f.settings.name) s framed;
    shares = knows.shares ∙ words.shares ∙ of_frame (λ f. f.settings.shares_fetches) s framed;
    clock = knows.clock ∙ words.clock ∙ of_frame (λ f. f.clock) s framed;
    ticked = knows.ticked ∙ words.ticked ∙ of_frame (λ f. f.is_ticked) s framed;
    stopped = knows.stopped ∙ words.stopped ∙ of_frame (λ f. f.is_stopped) s framed;
  }

  stands : (number : ℕ → ℕ) (x : Both) (s : State) (bytes : Bytes) → Moment x s bytes → ShowsSides number name (sides_of x) s → StandsThere number name shelf x s
  stands number x s bytes m shows =
      let one : RestsOn shelf n ends x s bytes = on x s bytes m in
      let named : x.state.name.items ≡ name = m.knows.name ∙ own in
      record {
        named = sym (of_frame (λ f. f.settings.name) s m.framed) ∙ sym words.name ∙ own;
        shows = record {
          read = record {
            turn = turn_by number x.peers x.state s (words_at x s m.knows m.framed) m.bounded (subst (λ (text : Bytes). ShowsSteps number text none_leaves x.peers (parts x.state) s) (sym named) shows.steps);
            disk = one.disk;
            may = one.may;
            forgotten = one.forgotten;
          };
          may = shows.may;
        };
      }

  -- ---- one moment behind the other

  next_is : (x next : Both) (s t : State) (bytes rest : Bytes) → (m : Moment x s bytes) → IsBehindHead name shelf n x s bytes next t rest ⊎ IsBehindPiece name shelf n x s bytes next t rest → KnowsAsMuch x.state next.state → Stays false (frame false from) t → IsBounded next.state.cache → LeadsTo shelf n next ends
      → (number : ℕ → ℕ) → ShowsSides number name (sides_of next) t → Moment next t rest
  unfolding IsMoment
  next_is x next s t bytes rest m behind knows framed bounded_then leads number shows = record {
    pieces = suc m.pieces;
    is = (x, s, bytes, m.is, behind);
    knows = knows_then begins.state x.state next.state m.knows knows;
    framed = framed;
    bounded = bounded_then;
    leads = leads;
    number = number;
    shows = shows;
  }

  module _ (number : ℕ → ℕ) (x next : Both) (s : State) (k : Conn) (e : Exchange) (bytes : Bytes) (behind : Option Remains) (more : ℕ) (m : Moment x s bytes) (quiet : k.answer ≡ None) (run : GotFrom more shelf n behind next ends) (there : StandsBefore number shelf x s n k e) (it : HeadIsGot shelf next s n e bytes behind there.begin there.then there.before there.peer) where
    abbrev t : State
    t = head_came there.before it.head there.then

    head_framed : Stays false (frame false from) t
    head_framed = framed_by (frame false from) (length bytes) it.less n bytes it.rest s t it.law m.framed

    head_knows : KnowsAsMuch x.state next.state
    head_knows = subst (λ (p : Turn). KnowsAsMuch p next.state) there.state (head_stays shelf n _ next it.came).knows

    -- the name is that of the beginning
    named : there.then.settings.name ≡ name
    named = there.named ∙ sym (of_frame (λ f. f.settings.name) s m.framed) ∙ sym words.name ∙ own

    at_name : (number1 : ℕ → ℕ) (z : Both) → ShowsSides number1 there.then.settings.name (sides_of z) t → ShowsSides number1 name (sides_of z) t
    at_name number1 z shows = subst (λ (text : Bytes). ShowsSides number1 text (sides_of z) t) named shows

    -- memory was refused for no row: this life did not go astray
    next_calm : next.state.is_astray ≡ false
    next_calm = (reads_stay more shelf n behind next ends run).astray calm

    none_before : there.begin.state.refused ≡ []
    none_before = there.shows.read.turn.steps.refused

    rested : HeadRestsOn shelf n next s e bytes behind there.begin there.then there.before there.peer it
    rested = (on x s bytes m).heads number next k e behind more run there it

    given : IsGivenHead (first_on n (parts there.begin.state)) shelf n (with_head n there.peer it.left there.begin) next it.came
    given = head_given (first_on n (parts there.begin.state)) shelf n (with_head n there.peer it.left there.begin) next it.came next_calm

    none_refused : next.state.refused ≡ []
    none_refused = (head_stays shelf n (with_head n there.peer it.left there.begin) next it.came).refused next_calm none_before

    -- behind it, where both sides are shown
    behind_it : (last : Both) → (last ≡ next) ⊎ ((after : Option Remains) × IsStepOn (going_on (find (is_number n) next.peers)) shelf n (remaining it.rest []) next last after) → (last ≡ next) ⊎ ((is_wrong_head e it.head ≡ false) × ((body_of it.rule []).outcome ≡ Done []))
        → last.state.is_astray ≡ false → (number1 : ℕ → ℕ) → ShowsSides number1 name (sides_of last) t → IsBehindHead name shelf n x s bytes last t it.rest
    behind_it last then ends_so straight number1 shows = record {
      number = number;
      conn = k;
      exchange = e;
      behind = behind;
      there = there;
      head = next;
      it = it;
      state = refl;
      left = refl;
      then = then;
      ends = ends_so;
      quiet = quiet;
      rests = rested;
      given = given;
      refused = none_refused;
      calm = next_calm;
      straight = straight;
      anew = number1;
      shows = shows;
    }

    behind_head : (number1 : ℕ → ℕ) → ShowsSides number1 there.then.settings.name (sides_of next) t → Moment next t it.rest
    behind_head number1 shows = next_is x next s t bytes it.rest m (inl (behind_it next (inl refl) (inl refl) next_calm number1 (at_name number1 next shows))) head_knows head_framed it.bounded (record { more = more; behind = behind; then = run }) number1 (at_name number1 next shows)

    behind_end : (number1 : ℕ → ℕ) (last : Both) (after : Option Remains) (less : ℕ) → ShowsSides number1 there.then.settings.name (sides_of last) t → is_wrong_head e it.head ≡ false → (body_of it.rule []).outcome ≡ Done [] → IsStepOn (going_on (find (is_number n) next.peers)) shelf n (remaining it.rest []) next last after → GotFrom less shelf n after last ends → Moment last t it.rest
    behind_end number1 last after less shows right over step later =
        next_is x last s t bytes it.rest m (inl (behind_it last (inr (after, step)) (inr (right, over)) ((reads_stay less shelf n after last ends later).astray calm) number1 (at_name number1 last shows)))
        (knows_then x.state next.state last.state head_knows (step_stays (going_on (find (is_number n) next.peers)) shelf n (remaining it.rest []) next last after step).knows) head_framed (step_bounded (going_on (find (is_number n) next.peers)) shelf n (remaining it.rest []) next last after step it.bounded) (record { more = less; behind = after; then = later })
        number1 (at_name number1 last shows)

    supplied : SuppliesHead shelf n ends Moment next s e bytes behind there.begin there.then there.before there.peer it
    supplied = record {
      may = rested.may;
      given = given;
      refused = none_refused;
      straight = next_calm;
      end = rested.end;
      holds = λ number1 shows goes. behind_head number1 shows;
      ends = λ number1 last after less shows right over step later. behind_end number1 last after less shows right over step later;
    }

  behind_piece : (number : ℕ → ℕ) (x z next : Both) (s : State) (k : Conn) (a : Answer) (peer : Peer) (e : Exchange) (b : ℕ) (bytes : Bytes) (here : Remains) (after : Option Remains) (more : ℕ) → Moment x s (b ∷ bytes) → ShowsSides number name (sides_of x) s → IsWithinBody x s n k a peer e → MayGo x.state s e (data_in a (b ∷ bytes)) → IsAmidBody x z n peer a (b ∷ bytes) here
      → IsStepOn (going_on (find (is_number n) z.peers)) shelf n here z next after → GotFrom more shelf n after next ends → PieceIsOver number name next s k a (b ∷ bytes) after → Moment next (body_piece k a (b ∷ bytes) s).state (body_piece k a (b ∷ bytes) s).rest
  behind_piece number x z next s k a peer e b bytes here after more m shows within may amid step run over =
      next_is x next s (body_piece k a (b ∷ bytes) s).state (b ∷ bytes) (body_piece k a (b ∷ bytes) s).rest m
      (inr (record { number = number; conn = k; answer = a; peer = peer; exchange = e; amid = z; here = here; after = after; first = b; others = bytes; some = refl; within = within; is_amid = amid; step = step; over = over; shows = shows; may = may; straight = (reads_stay more shelf n after next ends run).astray calm; state = refl; left = refl }))
      (subst (λ (p : Turn). KnowsAsMuch p next.state) amid.state (step_stays (going_on (find (is_number n) z.peers)) shelf n here z next after step).knows)
      (piece_framed (frame false from) n b bytes s k a (record { there = within.on.may.there; goes_on = within.on.may.goes_on }) within.on.answer m.framed)
      (step_bounded (going_on (find (is_number n) z.peers)) shelf n here z next after step (subst (λ (p : Turn). IsBounded p.cache) (sym amid.state) m.bounded)) (record { more = more; behind = after; then = run }) number over.shows

  pub supplies : Supplies name shelf n ends Moment
  supplies = record {
    stands = stands;
    enough = λ most x s bytes m few. (on x s bytes m).enough most few;
    fewer = λ x s k a b bytes m opens has. (on x s (b ∷ bytes) m).fewer k a b bytes refl opens has;
    awaits = λ x s bytes k e m due none. (on x s bytes m).awaits k e due none;
    heads = λ number x next s k e bytes behind more m quiet run there it. supplied number x next s k e bytes behind more m quiet run there it;
    bodies = λ x s k a bytes m opens has. (on x s bytes m).bodies k a opens has;
    behind = behind_piece;
  }
