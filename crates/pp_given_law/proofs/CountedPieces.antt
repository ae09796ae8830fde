-- Of what is dropped as much is counted as came, behind a piece of a body: so much more as came, or its answer is over.
use Rattle.std.proofs.Common.{◌≡◌, ◌⊎◌, ◌≤◌, inl, inr, refl, sym, subst, ap, ◌∙◌, ℕ, ◌+◌, ◌-◌, Bool, true, false, ◌==◌, ◌||◌, cond, find, length, List, [], ◌∷◌, ◌++◌, Option, Some, None, le_refl, arith}
use Rattle.std.proofs.lemmas.Bool.Decides.{nat_tests}
use Rattle.std.proofs.lemmas.List.{length-drop}
use Rattle.std.specs.Prelude.{count_by, slice_get}
use Rattle.pp_cache_law.proofs.Finds.{find_passes}
use Rattle.pp_cache_law.proofs.Numbers.{is_same, some_is}
use Rattle.pp_desk.specs.Closings.{Sides}
use Rattle.pp_endings_law.proofs.GoneShort.{found_set}
use Rattle.pp_flow.specs.Changes.{Exchanges, entry_of}
use Rattle.pp_flow.specs.declared.entry.Entry.{Entry}
use Rattle.pp_flow.specs.declared.errand.Body.{Body}
use Rattle.pp_flow.specs.declared.errand.Body.TheVariants.{Pending, Joining, Relaying, Dropping}
use Rattle.pp_flow_law.proofs.Standing.{IsShown, is_shown}
use Rattle.pp_flow_law.specs.Tables.{ShowsFlow, line_in, none_leaves}
use Rattle.pp_framing.specs.Rules.{body_of}
use Rattle.pp_law.specs.Connections.{conn, exchange, front_of_line, is_conn, on_conn}
use Rattle.pp_law.specs.Lists.{Bytes, has_number}
use Rattle.pp_law.specs.Responses.{bad_response as law_bad, deliver, finish, payload_of}
use Rattle.pp_law.specs.Stages.{is_headed}
use Rattle.pp_law.specs.State.{State, Answer, Body as LawBody, Conn, Exchange, Pending as IsPending, Joining as IsJoining, Relaying as IsRelaying, Dropping as IsDropping}
use Rattle.pp_law.specs.Unseen.{came_of}
use Rattle.pp_laws.proofs.Payloads.{payload-grows}
use Rattle.pp_laws_pool.proofs.PoolGot.{deliver-conns}
use Rattle.pp_origins.specs.Gots.{Both, sides_of}
use Rattle.pp_reads_law.proofs.Fronts.{IsFront, is_front}
use Rattle.pp_reads_law.proofs.PieceEnds.{HasCome, IsOver, piece_is_over}
use Rattle.pp_reads_law.specs.Brings.{IsBehindPiece}
use Rattle.pp_reads_law.specs.Data.{MayGo}
use Rattle.pp_reads_law.specs.Pieces.{data_in}
use Rattle.pp_seats_law.specs.Exchanges.{Binding, ShowsBody}
use Rattle.pp_state.specs.Ends.{parts}
use Rattle.pp_state.specs.Lines.{first_on}
use Rattle.pp_states_law.specs.Readings.{with_raw}
use Rattle.pp_stays_law.proofs.Came.{AllConns, HasCome as CameThere, came_at}
use Rattle.pp_stays_law.proofs.Counted.{CountsOn, HasStood, SameBody, Stood, all_stand, counted_as, counted_as_stood}
use Rattle.pp_stays_law.proofs.Fits.{AnyEntry, AnyMemory, AnySeat}
use Rattle.pp_stays_law.proofs.Walk.{AllOf, Suits}
use Rattle.pp_stays_law.specs.Turns.{AreCounted}
use Rattle.pp_store.specs.Kept.{KeptMap}
use Rattle.pp_turns_law.specs.Sides.{ShowsSides}
use Rattle.pp_turns_law.specs.Unseen.{IsCounted}
use Rattle.pp_given_law.proofs.CountedData.{IsButOf, data_first, data_leave, more_counted}
use Rattle.pp_given_law.proofs.CountedLaws.{HasCameStill, IsUnanswered, bad_came, bad_unanswered, finish_came, finish_unanswered, set_all}
use Rattle.pp_given_law.proofs.CountedWalk.{is_none, is_whole}
use Rattle.pp_given_law.specs.Pieces.{CanBeCounted, CountedBehindPieces, IsInLine, LinesAreAnswered}

-- ---- what is dropped shows a head that came

headed_by : (number : ℕ → ℕ) (c : ℕ) (headed : Bool) (bound : Option Binding) (b : LawBody) → ShowsBody number (Dropping c) headed bound b → b ≡ IsDropping
headed_by number c true None IsDropping shows = refl
headed_by number c true None IsPending shows = absurd shows
headed_by number c true None (IsJoining x) shows = absurd shows
headed_by number c true None IsRelaying shows = absurd shows
headed_by number c true (Some x) b shows = absurd (by b shows)
  where
    by : (b : LawBody) → ShowsBody number (Dropping c) true (Some x) b → ⊥
    by IsPending it = it
    by (IsJoining y) it = it
    by IsRelaying it = it
    by IsDropping it = it
headed_by number c false bound b shows = absurd (by bound b shows)
  where
    by : (o : Option Binding) (b : LawBody) → ShowsBody number (Dropping c) false o b → ⊥
    by None IsPending it = it
    by None (IsJoining y) it = it
    by None IsRelaying it = it
    by None IsDropping it = it
    by (Some y) IsPending it = it
    by (Some y) (IsJoining z) it = it
    by (Some y) IsRelaying it = it
    by (Some y) IsDropping it = it

is_dropped : (e : Exchange) → e.body ≡ IsDropping → is_headed e ≡ true
is_dropped e is = ap (λ (b : LawBody). is_headed (record e { body = b })) is

-- what holds of each count of what is dropped
pub dropping_only : (body : Body) (j : Conn) → ((c : ℕ) → body ≡ Dropping c → IsCounted body j) → IsCounted body j
dropping_only Pending j all = tt
dropping_only (Joining wanted) j all = tt
dropping_only Relaying j all = tt
dropping_only (Dropping c) j all = all c refl

module _ (number : ℕ → ℕ) (f : Exchanges) (s : State) (shows : ShowsFlow number none_leaves f s) (lines : LinesAreAnswered s) (n m : ℕ) (k : Conn) (x : Entry) (here : conn s n ≡ Some k) (at : entry_of m f ≡ Some x) (has : has_number m k.line ≡ true) where
  pub shown : IsShown number s m x
  shown = is_shown number none_leaves f s shows m x at

  pub in_line : IsInLine s n m k shown.known
  in_line = record { conn_is = here; known = shown.there; has = has }

  pub dropped_body : (c : ℕ) → x.errand.body ≡ Dropping c → shown.known.body ≡ IsDropping
  dropped_body c is = headed_by number c x.exchange.headed x.exchange.bound shown.known.body (subst (λ (b : Body). ShowsBody number b x.exchange.headed x.exchange.bound shown.known.body) is shown.shows.body)

  pub headed : (c : ℕ) → x.errand.body ≡ Dropping c → is_headed shown.known ≡ true
  headed c is = is_dropped shown.known (dropped_body c is)

  -- so its answer is under way
  pub none_dropped : (c : ℕ) → x.errand.body ≡ Dropping c → k.answer ≡ None → ⊥
  none_dropped c is none = lines.awaited n m k shown.known in_line (headed c is) none

  -- and it is the first
  pub first_one_is : (c : ℕ) (e : Exchange) → x.errand.body ≡ Dropping c → front_of_line s k ≡ Some e → shown.known ≡ e
  first_one_is c e is front = some_is shown.known e (sym (lines.first n m k shown.known in_line (headed c is)) ∙ front)

  pub first_dropped : (c : ℕ) (e : Exchange) → x.errand.body ≡ Dropping c → front_of_line s k ≡ Some e → m ≡ e.number
  first_dropped c e is front =
      let same : shown.known ≡ e = first_one_is c e is front in
      sym (is_same shown.known.number m (find_passes (λ (d : Exchange). d.number == m) s.exchanges shown.known shown.there)) ∙ ap (λ (d : Exchange). d.number) same

-- ---- connections

pub conn_has : (R : Conn → Type 0) (n : ℕ) (ks : List Conn) (k : Conn) → find (is_conn n) ks ≡ Some k → AllConns R ks → R k × ((k.number == n) ≡ true)
conn_has R n [] k there all = absurd (cc there)
conn_has R n (j ∷ ks) k there all = by (is_conn n j) refl there (λ later. conn_has R n ks k later all.1)
  where
    by : (b : Bool) → is_conn n j ≡ b → cond b (Some j) (find (is_conn n) ks) ≡ Some k → (find (is_conn n) ks ≡ Some k → R k × ((k.number == n) ≡ true)) → R k × ((k.number == n) ≡ true)
    by true is found rest = subst (λ (i : Conn). R i × ((i.number == n) ≡ true)) (some_is j k found) (all.0, is)
    by false is found rest = rest found

all_still : (n c : ℕ) (ks : List Conn) → AllConns (CameThere n c) ks → AllConns (HasCameStill n c) ks
all_still n c [] all = tt
all_still n c (k ∷ ks) all = ((λ is. inl (all.0 is)), all_still n c ks all.1)

pub starts_still : (s : State) (m : ℕ) (k : Conn) → count_by (is_conn m) s.conns ≤ 1 → conn s m ≡ Some k → AllConns (HasCameStill m (came_of k)) s.conns
starts_still s m k few here = all_still m (came_of k) s.conns (came_at m k (record s { top = m }) few (le_refl m) here).conns

-- so much came there still, or nothing is awaited there
pub came_still : (t : State) (m c : ℕ) (j : Conn) → conn t m ≡ Some j → AllConns (HasCameStill m c) t.conns → (came_of j ≡ c) ⊎ (j.answer ≡ None)
came_still t m c j there all = let one : HasCameStill m c j × ((j.number == m) ≡ true) = conn_has (HasCameStill m c) m t.conns j there all in one.0 one.1

pub unanswered : (t : State) (m : ℕ) (j : Conn) → conn t m ≡ Some j → AllConns (IsUnanswered m) t.conns → j.answer ≡ None
unanswered t m j there all = let one : IsUnanswered m j × ((j.number == m) ≡ true) = conn_has (IsUnanswered m) m t.conns j there all in one.0 one.1

-- ---- exchanges

pub all_may : (R : Entry → Entry → Type 0) (f : Exchanges) (xs : List Entry) → AllOf (Stood R f) xs → AllOf (HasStood R f) xs
all_may R f [] all = tt
all_may R f (x ∷ xs) all = (inr all.0, all_may R f xs all.1)

all_but : (n : ℕ) (f : Exchanges) (xs : List Entry) → AllOf (Stood SameBody f) xs → AllOf (Stood (IsButOf n) f) xs
all_but n f [] all = tt
all_but n f (x ∷ xs) all = (record { before = all.0.before; there = all.0.there; place = all.0.place; related = inl all.0.related }, all_but n f xs all.1)

but_suits : (n : ℕ) (f : Exchanges) → Suits AnySeat AnyEntry (Stood (IsButOf n) f) AnyMemory
but_suits n f = record {
  seat = λ a b on its. tt;
  left_waiting = λ x its. tt;
  left_placed = λ x was. record { before = was.before; there = was.there; place = was.place; related = was.related };
  anew_waiting = λ x its. tt;
  anew_placed = λ x was. record { before = was.before; there = was.there; place = was.place; related = was.related };
  begins = λ seat key n aim errand text its owned pending. tt;
  memory = λ m k same its. tt;
}

pub self : (n : ℕ) → (n == n) ≡ true
self n = grind (arith, nat_tests)

-- ---- of one piece

module _ (number : ℕ → ℕ) (name : Bytes) (shelf : KeptMap) (n : ℕ) (x next : Both) (s t : State) (bytes rest : Bytes) (shows : ShowsSides number name (sides_of x) s) (it : IsBehindPiece name shelf n x s bytes next t rest) (may : MayGo x.state s it.exchange (data_in it.answer bytes))
    (lines : LinesAreAnswered s) (later : LinesAreAnswered t) (within : CanBeCounted it.exchange (length (body_of it.answer.rule (it.answer.raw ++ bytes)).payload)) (counted : AreCounted x.state s) where
  abbrev k : Conn
  k = it.conn

  abbrev a : Answer
  a = it.answer

  abbrev e : Exchange
  e = it.exchange

  abbrev f : Exchanges
  f = x.state.flow

  abbrev g : Exchanges
  g = next.state.flow

  flows : ShowsFlow number none_leaves f s
  flows = shows.steps.shows.exchanges

  shown_then : ShowsSides it.number name (sides_of next) t
  shown_then = subst (λ (u : State). ShowsSides it.number name (sides_of next) u) (sym it.state) it.over.shows

  behind : ShowsFlow it.number none_leaves g t
  behind = shown_then.steps.shows.exchanges

  here : conn s n ≡ Some k
  here = it.within.on.may.there

  kn : k.number ≡ n
  kn = is_same k.number n (find_passes (is_conn n) s.conns k here)

  first : IsFront s k e
  first = is_front s k e it.within.front

  first_is : first_on n (parts x.state) ≡ Some e.number
  first_is = ap (λ (ns : List ℕ). slice_get ns 0) (flows.lines n ∙ ap (λ (o : Option Conn). line_in o) here ∙ first.line)

  own : IsInLine s n e.number k e
  own = record { conn_is = here; known = first.known; has = ap (λ (ns : List ℕ). has_number e.number ns) first.line ∙ ap (λ (b : Bool). b || has_number e.number first.others) (self e.number) }

  starts : AllOf (Stood (IsButOf e.number) f) f.placed
  starts = all_but e.number f f.placed (all_stand number f s flows)

  -- one of another connection, or that is not the first, is as it was
  others : (i m : ℕ) (kk : Conn) (b y : Entry) → conn s i ≡ Some kk → entry_of m f ≡ Some b → has_number m kk.line ≡ true → y.exchange.number ≡ m → ((i ≡ n) → m ≡ e.number → ⊥) → IsButOf e.number b y → SameBody b y
  others i m kk b y before was has num apart (inl same) = same
  others i m kk b y before was has num apart (inr its) =
      let at_m : m ≡ e.number = sym num ∙ its in
      let mine : IsInLine s i m kk _ = in_line number f s flows lines i m kk b before was has in
      absurd (apart (lines.one i n m kk k _ e mine (record { conn_is = here; known = ap (λ (j : ℕ). exchange s j) at_m ∙ first.known; has = ap (λ (j : ℕ). has_number j k.line) at_m ∙ own.has })) at_m)

  dropped_then : (i m : ℕ) (j : Conn) (y : Entry) → conn t i ≡ Some j → entry_of m g ≡ Some y → has_number m j.line ≡ true → j.answer ≡ None → IsCounted y.errand.body j
  dropped_then i m j y there is has none = dropping_only y.errand.body j (λ c drops. absurd (none_dropped it.number g t behind later i m j y there is has c drops none))

  same_counted : (kk j : Conn) (b y : Entry) → SameBody b y → came_of j ≡ came_of kk → IsCounted b.errand.body kk → IsCounted y.errand.body j
  same_counted kk j b y same came its = subst (λ (body : Body). IsCounted body j) (sym same) (counted_as b.errand.body kk j came its)

  -- ---- its answer is over

  module _ (over_own : AllConns (IsUnanswered n) t.conns) (over_all : (m : ℕ) (kk : Conn) → conn s m ≡ Some kk → AllConns (HasCameStill m (came_of kk)) t.conns) (leave : AllOf (Stood (IsButOf e.number) f) g.placed) where
    counts_over : CountsOn (IsButOf e.number) f g s t
    counts_over i m kk j b y on related its = by (came_still t i (came_of kk) j on.there (over_all i kk on.before))
      where
        by : (came_of j ≡ came_of kk) ⊎ (j.answer ≡ None) → IsCounted y.errand.body j
        by (inr none) = dropped_then i m j y on.there on.is on.stands none
        by (inl came) = at (i == n) refl
          where
            at : (b : Bool) → (i == n) ≡ b → IsCounted y.errand.body j
            at true same = dropped_then i m j y on.there on.is on.stands (unanswered t n j (ap (λ (l : ℕ). conn t l) (sym (is_same i n same)) ∙ on.there) over_own)
            at false apart = same_counted kk j b y (others i m kk b y on.before on.was on.stood on.number (λ same first_one. no (sym (ap (λ (l : ℕ). l == n) same ∙ self n) ∙ apart)) related) came its
              where
                no : {A : Type 0} → true ≡ false → A
                no both = absurd (cc both)

    counted_over : AreCounted next.state t
    counted_over = counted_as_stood number it.number (IsButOf e.number) f g s t flows behind (all_may (IsButOf e.number) f g.placed leave) counts_over counted

  -- ---- it goes on

  module _ (came : Bytes) (has : HasCome x n a bytes came next.state) (law : t ≡ on_conn k.number (with_raw a bytes) (deliver e a (length (payload_of a)) came s)) where
    abbrev u : State
    u = deliver e a (length (payload_of a)) came s

    conns_same : u.conns ≡ s.conns
    conns_same = deliver-conns e a (length (payload_of a)) came s

    own_then : conn t n ≡ Some (with_raw a bytes k)
    unfolding on_conn
    own_then = ap (λ (v : State). conn v n) law ∙ subst (λ (l : ℕ). conn (on_conn l (with_raw a bytes) u) n ≡ Some (with_raw a bytes k)) (sym kn) (found_set n (with_raw a bytes) u k (λ j. refl) (ap (λ (ks : List Conn). find (is_conn n) ks) conns_same ∙ here))

    still : (m : ℕ) (kk : Conn) → conn s m ≡ Some kk → (m == n) ≡ false → AllConns (HasCameStill m (came_of kk)) t.conns
    unfolding on_conn
    still m kk before apart =
        subst (λ (v : State). AllConns (HasCameStill m (came_of kk)) v.conns) (sym law)
        (set_all (HasCameStill m (came_of kk)) k.number (with_raw a bytes) u.conns other (subst (λ (ks : List Conn). AllConns (HasCameStill m (came_of kk)) ks) (sym conns_same) (starts_still s m kk (shows.may.apart m) before)))
      where
        no : {A : Type 0} → true ≡ false → A
        no both = absurd (cc both)

        other : (j : Conn) → is_conn k.number j ≡ true → HasCameStill m (came_of kk) j → HasCameStill m (came_of kk) (with_raw a bytes j)
        other j is was at =
            let at_n : j.number ≡ n = is_same j.number k.number is ∙ kn in
            let at_m : j.number ≡ m = is_same j.number m at in
            no (sym (ap (λ (l : ℕ). l == n) (sym at_m ∙ at_n) ∙ self n) ∙ apart)

    grows : (before came_then count : ℕ) → before ≤ came_then → count ≡ came_then - before → before + count ≡ came_then
    grows before came_then count less is = omega (arith, less, is)

    more : came_of k + length came ≡ came_of (with_raw a bytes k)
    more =
        ap (λ (o : Option Answer). came_of (record k { answer = o }) + length came) it.within.on.answer
        ∙ grows (length (payload_of a)) (length (body_of a.rule (a.raw ++ bytes)).payload) (length came) (payload-grows a.rule a.raw bytes)
        (ap (λ (bs : Bytes). length bs) (sym has.is_data) ∙ length-drop (length (payload_of a)) (body_of a.rule (a.raw ++ bytes)).payload)

    counts_on : CountsOn (IsButOf e.number) f g s t
    counts_on i m kk j b y on related its = at (i == n) refl
      where
        no : {A : Type 0} → true ≡ false → A
        no both = absurd (cc both)

        at : (c : Bool) → (i == n) ≡ c → IsCounted y.errand.body j
        at false apart = by (came_still t i (came_of kk) j on.there (still i kk on.before apart))
          where
            by : (came_of j ≡ came_of kk) ⊎ (j.answer ≡ None) → IsCounted y.errand.body j
            by (inl same) = same_counted kk j b y (others i m kk b y on.before on.was on.stood on.number (λ is first_one. no (sym (ap (λ (l : ℕ). l == n) is ∙ self n) ∙ apart)) related) same its
            by (inr none) = dropped_then i m j y on.there on.is on.stands none
        at true same = mine (m == e.number) refl
          where
            i_is : i ≡ n
            i_is = is_same i n same

            kk_is : kk ≡ k
            kk_is = some_is kk k (sym on.before ∙ ap (λ (l : ℕ). conn s l) i_is ∙ here)

            j_is : j ≡ with_raw a bytes k
            j_is = some_is j (with_raw a bytes k) (sym on.there ∙ ap (λ (l : ℕ). conn t l) i_is ∙ own_then)

            its_body : (c : ℕ) → b.errand.body ≡ Dropping c → e.body ≡ IsDropping
            its_body c drops =
                ap (λ (d : Exchange). d.body) (sym (first_one_is number f s flows lines i m kk b on.before on.was on.stood c e drops (ap (λ (l : Conn). front_of_line s l) kk_is ∙ it.within.front)))
                ∙ dropped_body number f s flows lines i m kk b on.before on.was on.stood c drops

            mine : (c : Bool) → (m == e.number) ≡ c → IsCounted y.errand.body j
            mine true first_one =
                let m_is : m ≡ e.number = is_same m e.number first_one in
                subst (λ (l : Conn). IsCounted y.errand.body l) (sym j_is)
                (more_counted b.errand.body y.errand.body k (with_raw a bytes k) (length came)
                (data_first e.number n came x.state next.state b y first_is has.delivers (ap (λ (l : ℕ). entry_of l f) (sym m_is) ∙ on.was) (ap (λ (l : ℕ). entry_of l g) (sym m_is) ∙ on.is)) more (λ c drops. within (its_body c drops))
                (subst (λ (l : Conn). IsCounted b.errand.body l) kk_is its))
            mine false apart = dropping_only y.errand.body j (λ c drops. absurd (never c (sym (others i m kk b y on.before on.was on.stood on.number (λ is m_is. not_first m_is) related) ∙ drops)))
              where
                not_first : m ≡ e.number → ⊥
                not_first m_is = no (sym (ap (λ (l : ℕ). l == e.number) m_is ∙ self e.number) ∙ apart)

                never : (c : ℕ) → b.errand.body ≡ Dropping c → ⊥
                never c drops = not_first (first_dropped number f s flows lines i m kk b on.before on.was on.stood c e drops (ap (λ (l : Conn). front_of_line s l) kk_is ∙ it.within.front))

    counted_on : AreCounted next.state t
    counted_on = counted_as_stood number it.number (IsButOf e.number) f g s t flows behind (all_may (IsButOf e.number) f g.placed (data_leave f e.number n came x.state next.state first_is has.delivers starts)) counts_on counted

  -- ---- however it is over

  ends_by : IsOver x next s n k a e bytes → AreCounted next.state t
  ends_by (inl on) = counted_on on.came on.has (it.state ∙ on.law_is)
  ends_by (inr (inl over)) =
      counted_over (subst (λ (v : State). AllConns (IsUnanswered n) v.conns) (sym law) (subst (λ (l : ℕ). AllConns (IsUnanswered l) (finish k e a u).conns) kn (finish_unanswered k e a u)))
      (λ m kk before. subst (λ (v : State). AllConns (HasCameStill m (came_of kk)) v.conns) (sym law) (finish_came m (came_of kk) k e a u (start m kk before)))
      (subst (λ (z : Sides). AllOf (Stood (IsButOf e.number) f) z.parts.flow.placed) (sym over.makes.is)
      (is_whole (Stood (IsButOf e.number) f) (but_suits e.number f) n (sides_of (record { state = over.between; peers = over.peers })) (data_leave f e.number n over.came x.state over.between first_is over.has.delivers starts)))
    where
      u : State
      u = deliver e a (length (payload_of a)) over.came s

      law : t ≡ finish k e a u
      law = it.state ∙ over.law_is

      start : (m : ℕ) (kk : Conn) → conn s m ≡ Some kk → AllConns (HasCameStill m (came_of kk)) u.conns
      start m kk before = subst (λ (ks : List Conn). AllConns (HasCameStill m (came_of kk)) ks) (sym (deliver-conns e a (length (payload_of a)) over.came s)) (starts_still s m kk (shows.may.apart m) before)
  ends_by (inr (inr over)) =
      counted_over (subst (λ (v : State). AllConns (IsUnanswered n) v.conns) (sym law) (subst (λ (l : ℕ). AllConns (IsUnanswered l) (law_bad k u).conns) kn (bad_unanswered k u)))
      (λ m kk before. subst (λ (v : State). AllConns (HasCameStill m (came_of kk)) v.conns) (sym law) (bad_came m (came_of kk) k u (start m kk before)))
      (subst (λ (z : Sides). AllOf (Stood (IsButOf e.number) f) z.parts.flow.placed) (sym over.makes.is)
      (is_none (Stood (IsButOf e.number) f) (but_suits e.number f) n (sides_of (record { state = over.between; peers = over.peers })) (data_leave f e.number n over.came x.state over.between first_is over.has.delivers starts)))
    where
      u : State
      u = deliver e a (length (payload_of a)) over.came s

      law : t ≡ law_bad k u
      law = it.state ∙ over.law_is

      start : (m : ℕ) (kk : Conn) → conn s m ≡ Some kk → AllConns (HasCameStill m (came_of kk)) u.conns
      start m kk before = subst (λ (ks : List Conn). AllConns (HasCameStill m (came_of kk)) ks) (sym (deliver-conns e a (length (payload_of a)) over.came s)) (starts_still s m kk (shows.may.apart m) before)

  pub piece_counted : AreCounted next.state t
  piece_counted = ends_by (piece_is_over number name shelf n x s bytes next t rest shows it may)

pub behind_pieces : CountedBehindPieces
behind_pieces number name shelf n x next s t bytes rest shows it may lines later within counted = piece_counted number name shelf n x next s t bytes rest shows it may lines later within counted
