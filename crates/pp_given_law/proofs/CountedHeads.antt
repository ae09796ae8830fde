-- Of what is dropped as much is counted as came, behind a head that came: nothing is, and nothing came.
use Rattle.std.proofs.Common.{◌≡◌, ◌⊎◌, inl, inr, refl, sym, subst, ap, ◌∙◌, ℕ, Bool, true, false, ◌==◌, ◌||◌, cond, find, nat_lt, List, [], ◌∷◌, Option, Some, None}
use Rattle.std.specs.List.{list_any}
use Rattle.std.specs.Prelude.{count_by, slice_get}
use Rattle.pp_answers.specs.FinalHeads.{AnswersAsk, answer_to, noted_body}
use Rattle.pp_cache_law.proofs.Finds.{find_passes}
use Rattle.pp_cache_law.proofs.Numbers.{is_same, some_is}
use Rattle.pp_desk.specs.Closings.{Sides}
use Rattle.pp_due.specs.Entering.{HasRowFor, MayCome, with_room_if_over}
use Rattle.pp_flow.specs.Changes.{Exchanges, changed, entry_of}
use Rattle.pp_flow.specs.Entries.{Span, asking, bound_to, is_number}
use Rattle.pp_flow.specs.declared.entry.Entry.{Entry}
use Rattle.pp_flow.specs.declared.errand.Body.{Body}
use Rattle.pp_flow.specs.declared.errand.Body.TheVariants.{Dropping}
use Rattle.pp_flow.specs.declared.errand.Errand.{Errand}
use Rattle.pp_flow_law.specs.Tables.{ShowsFlow, line_in, none_leaves}
use Rattle.pp_framing.specs.Body.{Done}
use Rattle.pp_framing.specs.Rules.{body_of}
use Rattle.pp_framing.specs.declared.body.BodyRule.{BodyRule}
use Rattle.pp_head.specs.Response.{Response}
use Rattle.pp_law.specs.Connections.{conn, exchange, front_of_line, is_conn, on_conn}
use Rattle.pp_law.specs.Lists.{Bytes, has_number}
use Rattle.pp_law.specs.OwnHeads.{is_wrong_head}
use Rattle.pp_law.specs.Responses.{with_unread}
use Rattle.pp_law.specs.State.{State, Answer, Conn, Exchange}
use Rattle.pp_law.specs.Unseen.{came_of}
use Rattle.pp_laws_pool.proofs.PoolFacts.{find_map}
use Rattle.pp_objects.specs.Instances.{is_row}
use Rattle.pp_origins.specs.Gots.{Both, GoesOnBehind, HeadCameFor, IsStepOn, IsTaken, Remains, going_on, head_on, remaining, sides_of}
use Rattle.pp_origins.specs.Responses.{bad_response}
use Rattle.pp_peers.specs.Peers.{is_number as is_peer}
use Rattle.pp_reads_law.proofs.EndsThere.{ends_there}
use Rattle.pp_reads_law.proofs.Fronts.{IsFront, is_front}
use Rattle.pp_reads_law.specs.Brings.{IsBehindHead}
use Rattle.pp_reads_law.specs.Empties.{MayEnd}
use Rattle.pp_reads_law.specs.Heads.{HeadIsTaken, HeadLeads, with_head}
use Rattle.pp_state.specs.Bodies.{body_by, body_of as body_for, is_passed, with_body_for}
use Rattle.pp_state.specs.Ends.{Parts, parts}
use Rattle.pp_state.specs.Keys.{key_of}
use Rattle.pp_state.specs.Lines.{first_on}
use Rattle.pp_state.specs.Pins.{with_room}
use Rattle.pp_state.specs.declared.state.State.{State as Turn}
use Rattle.pp_stays_law.proofs.Came.{AllConns}
use Rattle.pp_stays_law.proofs.Counted.{CountsOn, SameBody, Stood, all_stand, counted_as, counted_as_stood}
use Rattle.pp_stays_law.proofs.Fits.{AnyEntry, AnyMemory, AnySeat}
use Rattle.pp_stays_law.proofs.Walk.{AllOf, Suits}
use Rattle.pp_stays_law.specs.Turns.{AreCounted}
use Rattle.pp_store.specs.Kept.{KeptMap}
use Rattle.pp_turns_law.specs.Sides.{ShowsSides}
use Rattle.pp_turns_law.specs.Unseen.{IsCounted}
use Rattle.pp_given_law.proofs.CountedAnswers.{room_same, takes_on}
use Rattle.pp_given_law.proofs.CountedLaws.{HasCameStill, head_leaves}
use Rattle.pp_given_law.proofs.CountedPieces.{all_may, came_still, dropping_only, none_dropped, self, starts_still}
use Rattle.pp_given_law.proofs.CountedWalk.{is_none, is_whole}
use Rattle.pp_given_law.specs.Pieces.{CountedBehindHeads, IsInLine, LinesAreAnswered}

-- ---- of the program: that one alone is noted, and nothing of it is counted

abbrev IsNone : Body → Type 0
IsNone body = (c : ℕ) → body ≡ Dropping c → c ≡ 0

abbrev IsNew : ℕ → Entry → Entry → Type 0
IsNew n b x = SameBody b x ⊎ ((x.exchange.number ≡ n) × IsNone x.errand.body)

none_by : (o : Option Span) (passed : Bool) → IsNone (body_by o passed)
none_by (Some span) passed c is = absurd (cc is)
none_by None true c is = absurd (cc is)
none_by None false c is = zero is
  where
    zero : Dropping 0 ≡ Dropping c → c ≡ 0
    zero same = cc same

module _ (f : Exchanges) (n : ℕ) where
  abbrev W : Entry → Type 0
  W x = Stood (IsNew n) f x

  abbrev G : Parts → Type 0
  G p = AllOf W p.flow.placed

  suits : Suits AnySeat AnyEntry W AnyMemory
  suits = record {
    seat = λ a b on its. tt;
    left_waiting = λ x its. tt;
    left_placed = λ x was. record { before = was.before; there = was.there; place = was.place; related = was.related };
    anew_waiting = λ x its. tt;
    anew_placed = λ x was. record { before = was.before; there = was.there; place = was.place; related = was.related };
    begins = λ seat key n aim errand text its owned pending. tt;
    memory = λ m k same its. tt;
  }

  bound : (to : Option Span) (x : Entry) → W x → W (bound_to to x)
  bound to x was = record { before = was.before; there = was.there; place = was.place; related = was.related }

  same_flow : (g h : Exchanges) → h ≡ g → AllOf W g.placed → AllOf W h.placed
  same_flow g h same all = subst (λ (i : Exchanges). AllOf W i.placed) (sym same) all

  starts : (xs : List Entry) → AllOf (Stood SameBody f) xs → AllOf W xs
  starts [] all = tt
  starts (x ∷ xs) all = (record { before = all.0.before; there = all.0.there; place = all.0.place; related = inl all.0.related }, starts xs all.1)

  asks : (errand : Errand) (xs : List Entry) → IsNone errand.body → AllOf W xs → AllOf W (changed n (asking errand) xs)
  asks errand [] none all = tt
  asks errand (x ∷ xs) none all = by (is_number n x) refl (asks errand xs none all.1)
    where
      by : (b : Bool) → is_number n x ≡ b → AllOf W (changed n (asking errand) xs) → AllOf W (cond b (asking errand x ∷ xs) (x ∷ changed n (asking errand) xs))
      by true is rest = (record { before = all.0.before; there = all.0.there; place = all.0.place; related = inr (is_same x.exchange.number n is, none) }, all.1)
      by false is rest = (all.0, rest)

  noted : (p : Parts) → G p → G (noted_body n p)
  noted p h = by (entry_of n p.flow)
    where
      on : (errand : Errand) → IsNone errand.body → (b : Bool) → AllOf W (cond b (record p.flow { waiting = changed n (asking errand) p.flow.waiting }) (record p.flow { placed = changed n (asking errand) p.flow.placed })).placed
      on errand none true = h
      on errand none false = asks errand p.flow.placed none h

      by : (o : Option Entry) → AllOf W (with_body_for o n p.seats p.flow).placed
      by None = h
      by (Some e) = on (record e.errand { body = body_for e.exchange p.seats }) (none_by e.exchange.bound (is_passed e.exchange p.seats)) (list_any (is_number n) p.flow.waiting)

  answers : (head : Response) (o : Option (Entry × BodyRule)) (s : Turn) (q : Parts) → AnswersAsk n head o s q → G (parts s) → G q
  answers head None s q it h = same_flow s.flow q.flow (ap (λ (p : Parts). p.flow) it) h
  answers head (Some a) s q it h =
      same_flow (noted_body n it.between).flow q.flow (ap (λ (p : Parts). p.flow) it.noted) (noted it.between (takes_on W suits bound a.0.exchange.aim a.0.exchange a.0.errand head a.1 s it.between it.taken h))

  taken : (o : Option Response) (stays : Option Bool) (s t : Turn) → IsTaken o n stays s t → G (parts s) → G (parts t)
  taken None stays s t it h = same_flow s.flow t.flow (ap (λ (p : Turn). p.flow) it.1) h
  taken (Some head) stays s t it h = answers head (answer_to head (entry_of n s.flow)) s (parts t) it.is h

  behind : (o : Option Bool) (k : ℕ) (x y : Both) → GoesOnBehind o k x y → G (parts x.state) → G (parts y.state)
  behind None k x y it h = same_flow (bad_response k (sides_of x)).parts.flow y.state.flow (ap (λ (z : Sides). z.parts.flow) it.is) (is_none W suits k (sides_of x) h)
  behind (Some stays) k x y it h = same_flow x.state.flow y.state.flow (ap (λ (z : Both). z.state.flow) it) h

  over_same : (s : Turn) → (with_room_if_over s).flow ≡ s.flow
  over_same s = by (nat_lt 1024 (count_by is_row s.cache.instances))
    where
      by : (b : Bool) → (let t : Turn = elim b as (λ t. Turn) [ true ↦ with_room s | false ↦ s ] in t.flow) ≡ s.flow
      by true = room_same W suits bound s
      by false = refl

  row_same : (shelf : KeptMap) (o : Option (List ℕ)) (s t : Turn) → HasRowFor shelf o s t → t.flow ≡ s.flow
  row_same shelf None s t it = ap (λ (p : Turn). p.flow) it
  row_same shelf (Some key) s t it = ap (λ (p : Turn). p.flow) it.room ∙ over_same it.entered ∙ by it.comes
    where
      by : MayCome shelf key s it.entered → it.entered.flow ≡ s.flow
      by (inl comes) = ap (λ (p : Turn). p.flow) comes.rest
      by (inr stays) = ap (λ (p : Turn). p.flow) stays

  comes : (shelf : KeptMap) (k : ℕ) (x y : Both) → HeadCameFor (Some n) shelf k x y → G (parts x.state) → G (parts y.state)
  comes shelf k x y it h =
      behind it.answers.stays k (record x { state = it.answers.between }) y it.answers.goes_on
      (taken (head_on k x.peers) it.answers.stays it.beside it.answers.between it.answers.taken (same_flow x.state.flow it.beside.flow (row_same shelf (key_of n x.state.flow) x.state it.beside it.row) h))

-- ---- where nothing but what is unread changes

record WasThere (s : State) (m : ℕ) (j : Conn) : Type 0 where
  was : Conn
  there : conn s m ≡ Some was
  line : j.line ≡ was.line
  answer : j.answer ≡ was.answer

abbrev WereThere : State → State → Type 0
WereThere s u = (u.exchanges ≡ s.exchanges) × ((m : ℕ) (j : Conn) → conn u m ≡ Some j → WasThere s m j)

unread_there : (n : ℕ) (s : State) → WereThere s (on_conn n (with_unread []) s)
unfolding on_conn
unread_there n s = (refl, at)
  where
    set : Conn → Conn
    set j = elim (is_conn n j) [ true ↦ with_unread [] j | false ↦ j ]

    number : (j : Conn) → (set j).number ≡ j.number
    number j = by (is_conn n j)
      where
        by : (b : Bool) → (let c : Conn = elim b as (λ t. Conn) [ true ↦ with_unread [] j | false ↦ j ] in c.number) ≡ j.number
        by true = refl
        by false = refl

    line : (j : Conn) → (set j).line ≡ j.line
    line j = by (is_conn n j)
      where
        by : (b : Bool) → (let c : Conn = elim b as (λ t. Conn) [ true ↦ with_unread [] j | false ↦ j ] in c.line) ≡ j.line
        by true = refl
        by false = refl

    answer : (j : Conn) → (set j).answer ≡ j.answer
    answer j = by (is_conn n j)
      where
        by : (b : Bool) → (let c : Conn = elim b as (λ t. Conn) [ true ↦ with_unread [] j | false ↦ j ] in c.answer) ≡ j.answer
        by true = refl
        by false = refl

    at : (m : ℕ) (j : Conn) → find (is_conn m) (on_conn n (with_unread []) s).conns ≡ Some j → WasThere s m j
    at m j found =
        let one = find_map m set s.conns j number found in
        record { was = one.0; there = one.1; line = ap (λ (c : Conn). c.line) one.2 ∙ line one.0; answer = ap (λ (c : Conn). c.answer) one.2 ∙ answer one.0 }

same_there : (s u : State) → u ≡ s → WereThere s u
same_there s u is = (ap (λ (v : State). v.exchanges) is, λ m j there. record { was = j; there = ap (λ (v : State). conn v m) (sym is) ∙ there; line = refl; answer = refl })

module _ (s u : State) (all : WereThere s u) where
  in_line : (n m : ℕ) (k : Conn) (e : Exchange) → (i : IsInLine u n m k e) → IsInLine s n m (all.1 n k i.conn_is).was e
  in_line n m k e i =
      let one : WasThere s n k = all.1 n k i.conn_is in
      record { conn_is = one.there; known = ap (λ (es : List Exchange). find (λ (d : Exchange). d.number == m) es) (sym all.0) ∙ i.known; has = ap (λ (line : List ℕ). has_number m line) (sym one.line) ∙ i.has }

  front_is : (k i : Conn) → k.line ≡ i.line → front_of_line u k ≡ front_of_line s i
  front_is k i line =
      ap (λ (ns : List ℕ). front_of_line u (record k { line = ns })) line
      ∙ ap (λ (es : List Exchange). front_of_line (record s { exchanges = es }) i) all.0

  lines_there : LinesAreAnswered s → LinesAreAnswered u
  lines_there lines = record {
    first = λ n m k e i headed. let one : WasThere s n k = all.1 n k i.conn_is in front_is k one.was one.line ∙ lines.first n m one.was e (in_line n m k e i) headed;
    awaited = λ n m k e i headed none. let one : WasThere s n k = all.1 n k i.conn_is in lines.awaited n m one.was e (in_line n m k e i) headed (sym one.answer ∙ none);
    answers = λ n k a e there answer front. let one : WasThere s n k = all.1 n k there in lines.answers n one.was a e one.there (sym one.answer ∙ answer) (sym (front_is k one.was one.line) ∙ front);
    one = λ i n m j k d e a b. lines.one i n m (all.1 i j a.conn_is).was (all.1 n k b.conn_is).was d e (in_line i m j d a) (in_line n m k e b);
  }

  counted_there : (p : Turn) → AreCounted p s → AreCounted p u
  counted_there p counted n k there m e has at =
      let one : WasThere s n k = all.1 n k there in
      counted_as e.errand.body one.was k (ap (λ (o : Option Answer). came_of (record one.was { answer = o })) one.answer) (counted n one.was one.there m e (ap (λ (line : List ℕ). has_number m line) (sym one.line) ∙ has) at)

-- ---- of one head

module _ (number : ℕ → ℕ) (name : Bytes) (shelf : KeptMap) (n : ℕ) (x next : Both) (s t : State) (bytes rest : Bytes) (r : IsBehindHead name shelf n x s bytes next t rest) (shows : ShowsSides number name (sides_of next) t)
    (leads : HeadLeads r.number (is_wrong_head r.exchange r.it.head) r.there.begin r.head r.there.then n r.there.before r.exchange r.it.head r.it.rule) (may : is_wrong_head r.exchange r.it.head ≡ false → MayEnd r.there.then r.there.before r.exchange r.it.head r.it.rule)
    (lines_first : LinesAreAnswered s) (later : LinesAreAnswered t) (counted_first : AreCounted x.state s) where
  abbrev u : State
  u = r.there.then

  abbrev begin : Both
  begin = r.there.begin

  abbrev k : Conn
  k = r.there.before

  abbrev e : Exchange
  e = r.exchange

  abbrev f : Exchanges
  f = begin.state.flow

  abbrev g : Exchanges
  g = next.state.flow

  were : WereThere s u
  were = by r.there.stands
    where
      by : ((r.there.before ≡ r.conn) × (u ≡ s)) ⊎ ((r.there.before ≡ with_unread [] r.conn) × (u ≡ on_conn n (with_unread []) s)) → WereThere s u
      by (inl same) = same_there s u same.1
      by (inr same) = subst (λ (v : State). WereThere s v) (sym same.1) (unread_there n s)

  lines : LinesAreAnswered u
  lines = lines_there s u were lines_first

  counted : AreCounted begin.state u
  counted = subst (λ (p : Turn). AreCounted p u) (sym r.there.state) (counted_there s u were x.state counted_first)

  flows : ShowsFlow r.number none_leaves f u
  flows = r.there.shows.read.turn.steps.shows.exchanges

  behind_it : ShowsFlow number none_leaves g t
  behind_it = shows.steps.shows.exchanges

  here : conn u n ≡ Some k
  here = r.there.due.due.on.there

  kn : k.number ≡ n
  kn = is_same k.number n (find_passes (is_conn n) u.conns k here)

  first : IsFront u k e
  first = is_front u k e r.there.due.due.front

  first_is : first_on n (parts begin.state) ≡ Some e.number
  first_is = ap (λ (ns : List ℕ). slice_get ns 0) (flows.lines n ∙ ap (λ (o : Option Conn). line_in o) here ∙ first.line)

  own : IsInLine u n e.number k e
  own = record { conn_is = here; known = first.known; has = ap (λ (ns : List ℕ). has_number e.number ns) first.line ∙ ap (λ (b : Bool). b || has_number e.number first.others) (self e.number) }

  -- nothing came before
  quiet : k.answer ≡ None
  quiet = by k.answer refl
    where
      by : (o : Option Answer) → k.answer ≡ o → o ≡ None
      by None is = refl
      by (Some a) is = absurd (let both : true ≡ false = sym (lines.answers n k a e here is r.there.due.due.front) ∙ r.there.due.none in cc both)

  nothing : came_of k ≡ 0
  nothing = ap (λ (o : Option Answer). came_of (record k { answer = o })) quiet

  all_came : (m : ℕ) (j : Conn) → conn u m ≡ Some j → AllConns (HasCameStill m (came_of j)) t.conns
  all_came m j there =
      subst (λ (v : State). AllConns (HasCameStill m (came_of j)) v.conns) (sym r.state)
      (head_leaves m (came_of j) k r.it.head fresh u (starts_still u m j (r.there.shows.may.apart m) there))
    where
      fresh : (k.number == m) ≡ true → came_of j ≡ 0
      fresh is =
          let same : j ≡ k = some_is j k (sym there ∙ ap (λ (i : ℕ). conn u i) (sym (is_same k.number m is) ∙ kn) ∙ here) in
          ap (λ (c : Conn). came_of c) same ∙ nothing

  leaves : AllOf (W f e.number) r.head.state.flow.placed
  leaves =
      comes f e.number shelf n (with_head n r.there.peer r.it.left begin) r.head (subst (λ (o : Option ℕ). HeadCameFor o shelf n (with_head n r.there.peer r.it.left begin) r.head) first_is r.it.came)
      (starts f e.number f.placed (all_stand r.number f u flows))

  placed : AllOf (W f e.number) g.placed
  placed = by r.then r.ends
    where
      same : next ≡ r.head → AllOf (W f e.number) g.placed
      same is = subst (λ (z : Both). AllOf (W f e.number) z.state.flow.placed) (sym is) leaves

      by : (next ≡ r.head) ⊎ ((after : Option Remains) × IsStepOn (going_on (find (is_peer n) r.head.peers)) shelf n (remaining r.it.rest []) r.head next after)
          → (next ≡ r.head) ⊎ ((is_wrong_head r.exchange r.it.head ≡ false) × ((body_of r.it.rule []).outcome ≡ Done [])) → AllOf (W f e.number) g.placed
      by (inl is) ends = same is
      by (inr step) (inl is) = same is
      by (inr step) (inr right) =
          let head_taken : HeadIsTaken r.number r.there.begin r.head u n k e r.it.head r.it.rule = subst (λ (b : Bool). HeadLeads r.number b r.there.begin r.head u n k e r.it.head r.it.rule) right.0 leads in
          let whole = (ends_there r.number shelf begin r.head u n k e r.there.peer r.it.head r.it.rule r.there.shows.may r.there.due head_taken (may right.0) next [] r.it.rest step.0 right.1 step.1).1 in
          subst (λ (z : Sides). AllOf (W f e.number) z.parts.flow.placed) (sym whole.1.is) (is_whole (W f e.number) (suits f e.number) n (sides_of (record r.head { peers = whole.0 })) leaves)

  counts : CountsOn (IsNew e.number) f g u t
  counts i m kk j b y on related its = by (came_still t i (came_of kk) j on.there (all_came i kk on.before))
    where
      by : (came_of j ≡ came_of kk) ⊎ (j.answer ≡ None) → IsCounted y.errand.body j
      by (inr none) = dropping_only y.errand.body j (λ c drops. absurd (none_dropped number g t behind_it later i m j y on.there on.is on.stands c drops none))
      by (inl came) = at related
        where
          at : IsNew e.number b y → IsCounted y.errand.body j
          at (inl same) = subst (λ (body : Body). IsCounted body j) (sym same) (counted_as b.errand.body kk j came its)
          at (inr anew) = dropping_only y.errand.body j (λ c drops. subst (λ (body : Body). IsCounted body j) (sym drops) (anew.1 c drops ∙ sym (came ∙ none_came)))
            where
              m_is : m ≡ e.number
              m_is = sym on.number ∙ anew.0

              at_own : i ≡ n
              at_own =
                  lines.one i n m kk k e e (record { conn_is = on.before; known = ap (λ (l : ℕ). exchange u l) m_is ∙ first.known; has = on.stood })
                  (record { conn_is = here; known = ap (λ (l : ℕ). exchange u l) m_is ∙ first.known; has = ap (λ (l : ℕ). has_number l k.line) m_is ∙ own.has })

              none_came : came_of kk ≡ 0
              none_came = ap (λ (c : Conn). came_of c) (some_is kk k (sym on.before ∙ ap (λ (l : ℕ). conn u l) at_own ∙ here)) ∙ nothing

  pub head_counted : AreCounted next.state t
  head_counted = counted_as_stood r.number number (IsNew e.number) f g u t flows behind_it (all_may (IsNew e.number) f g.placed placed) counts counted

pub behind_heads : CountedBehindHeads
behind_heads number name shelf n x next s t bytes rest r shows leads may lines later counted = head_counted number name shelf n x next s t bytes rest r shows leads may lines later counted
