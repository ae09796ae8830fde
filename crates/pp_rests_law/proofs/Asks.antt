-- What a decision asks fits into an ask: it was decided so.
use Rattle.std.proofs.Common.{◌≡◌, refl, sym, ap, ap₂, ◌∙◌, ℕ, Bool, true, false, not, ◌&&◌, List, Option, Some, None}
use Rattle.std.specs.Prelude.{if◌then◌else◌, is_some, option_map}
use Rattle.pp_cache.specs.Memory.{Memory}
use Rattle.pp_cache_law.proofs.Numbers.{some_is}
use Rattle.pp_client.specs.Requests.{Front as Heading, Nothing as NoRequest, Begun as More, Asked as IsAsked, Refused as IsNone, current_of}
use Rattle.pp_decide.specs.Decide.{decide, decide_by_row, decide_for, decide_front, decide_request, fits, if_fits, kind_of, text_by, text_for}
use Rattle.pp_due.specs.Due.{cut_of, decision_of, due_of}
use Rattle.pp_flow.specs.declared.errand.Kind.{Kind}
use Rattle.pp_flow.specs.declared.errand.Kind.TheVariants.{Check}
use Rattle.pp_head.specs.Request.{Request}
use Rattle.pp_law.specs.Stages.{is_page}
use Rattle.pp_laws_coming.proofs.Plans.{decision_off}
use Rattle.pp_objects.specs.Instances.{Instance, row_of}
use Rattle.pp_plan.specs.Decision.{by_begun, by_row, decision, is_ready_row}
use Rattle.pp_plan.specs.Requests.{is_conditional, is_head}
use Rattle.pp_plan.specs.declared.table.Begun.{Begun}
use Rattle.pp_plan.specs.declared.table.Begun.TheVariants.{Nothing, Settled, Other, Widened}
use Rattle.pp_seats.specs.Dues.{again_in, begun_in, by_stage_in, decision_in, due_in, give_up_in, is_refused_in, may_share, refused_in, undecided_in}
use Rattle.pp_seats.specs.Heads.{asked_in, owned_in}
use Rattle.pp_seats.specs.declared.due.Due.TheVariants.{Decide}
use Rattle.pp_seats.specs.declared.front.Asked.{Asked}
use Rattle.pp_seats.specs.declared.key.Key.{Key}
use Rattle.pp_seats.specs.declared.seat.Course.{Course}
use Rattle.pp_seats.specs.declared.seat.Course.TheVariants.{Trying, OutOfTries, AskTooLong}
use Rattle.pp_seats.specs.declared.seat.Seat.{Seat}
use Rattle.pp_seats.specs.declared.seat.Shared.{Shared}
use Rattle.pp_seats.specs.declared.seat.Stage.{Stage}
use Rattle.pp_seats.specs.declared.seat.Stage.TheVariants.{Undecided, Waiting, Passing, Answering}
use Rattle.pp_seats.specs.Seats.{is_told_in}
use Rattle.pp_state.specs.declared.state.State.{State}
use Rattle.pp_take.specs.Deciding.{Ask, ask_by, ask_for, ask_for_kind, asks_origin, by_asked, by_key, by_seat, errand_by, of_request}
use Rattle.pp_valid.specs.declared.version.Version.{Version}
use Rattle.pp_world.specs.declared.note.Cause.{Cause}
use Rattle.pp_world.specs.declared.note.Decision.{Decision}
use Rattle.pp_world.specs.declared.note.Decision.TheVariants.{Refuse, Hit, Part, Head, NotModified, Unsatisfiable, Relay, Validate, Fetch, Pass}

none_some : {A : Type 0} {x : A} {B : Type 0} → None ≡ Some x → B
none_some is = absurd (cc is)

-- ---- what is due is decided, unless it is a page

due_decided : (closing stopped : Bool) (cut : Option Cause) (o : Option Decision) (d : Decision) → due_in closing stopped cut o ≡ Some (Decide d) → o ≡ Some d
due_decided true stopped cut o d is = none_some is
due_decided false stopped (Some cause) o d is = absurd (cc is)
due_decided false true None o d is = none_some is
due_decided false false None None d is = none_some is
due_decided false false None (Some e) d is = let same : Decide e ≡ Decide d = some_is (Decide e) (Decide d) is in let one : e ≡ d = cc same in ap (λ (x : Decision). Some x) one

module _ (d : Decision) (page : is_page d ≡ false) where
  no_page : {B : Type 0} (status : ℕ) → Some (Refuse status) ≡ Some d → B
  no_page status is = let one : Refuse status ≡ d = some_is (Refuse status) d is in let both : true ≡ false = ap is_page one ∙ page in absurd (cc both)

  given : (course : Course) (o : Option Decision) → give_up_in course o ≡ Some d → o ≡ Some d
  given (Trying n) o is = is
  given OutOfTries o is = no_page 502 is
  given AskTooLong o is = no_page 431 is

  if_so : (b : Bool) (o : Option Decision) → (elim b as (λ t. Option Decision) [ true ↦ o | false ↦ None ]) ≡ Some d → o ≡ Some d
  if_so true o is = is
  if_so false o is = none_some is

  undecided_so : (w : Option Shared) (patient shares asked : Bool) (o : Option Decision) → undecided_in w patient shares asked o ≡ Some d → o ≡ Some d
  undecided_so (Some w) true shares asked o is = none_some is
  undecided_so (Some w) false shares asked o is = is
  undecided_so None patient shares asked None is = none_some is
  undecided_so None patient shares asked (Some e) is = by (shares && may_share e && asked) is
    where
      by : (b : Bool) → (elim b as (λ t. Option Decision) [ true ↦ None | false ↦ Some e ]) ≡ Some d → Some e ≡ Some d
      by true at = none_some at
      by false at = at

  by_stage : (stage : Stage) (course : Course) (told lost : Bool) (u o : Option Decision) → (u ≡ Some d → o ≡ Some d) → by_stage_in stage course told lost u o ≡ Some d → o ≡ Some d
  by_stage Undecided course told lost u o so is = so is
  by_stage Waiting course told lost u o so is = if_so told o (given course (elim told as (λ t. Option Decision) [ true ↦ o | false ↦ None ]) is)
  by_stage Passing course told lost u o so is = none_some (given course None is)
  by_stage (Answering a) course told lost u o so is = by a.has_begun is
    where
      by : (b : Bool) → again_in b course lost o ≡ Some d → o ≡ Some d
      by true at = none_some at
      by false at = if_so lost o (given course (elim lost as (λ t. Option Decision) [ true ↦ o | false ↦ None ]) at)

  decided_so : (seat : Seat) (lost : Bool) (u o : Option Decision) → (u ≡ Some d → o ≡ Some d) → decision_in seat lost u o ≡ Some d → o ≡ Some d
  decided_so seat lost u o so = by (is_refused_in seat.brought)
    where
      by : (b : Bool) → (elim b as (λ t. Option Decision) [ true ↦ Some (Refuse 500) | false ↦ by_stage_in seat.stage seat.course (is_told_in seat.brought) lost u o ]) ≡ Some d → o ≡ Some d
      by true is = no_page 500 is
      by false is = by_stage seat.stage seat.course (is_told_in seat.brought) lost u o so is

  pub decided_of : (q : State) (seat : Seat) → due_of q seat ≡ Some (Decide d) → decide q seat ≡ Some d
  decided_of q seat due =
      decided_so seat _ _ (decide q seat) (λ is. undecided_so seat.waits_on _ q.shares_fetches _ (decide q seat) is)
      (due_decided seat.is_closing q.is_stopped (cut_of q seat) (decision_of q seat) d due)

-- ---- what is decided by no row is no check

abbrev is_check : Decision → Bool
is_check Validate = true
is_check d = false

if_not : (b : Bool) (x y : Decision) → is_check x ≡ false → is_check y ≡ false → is_check (if b then x else y) ≡ false
if_not true x y hx hy = hx
if_not false x y hx hy = hy

by_none : (request : Request) (begun : Begun) (ready : Bool) → is_check (by_begun request None begun ready) ≡ false
by_none request Other ready = refl
by_none request Widened ready = refl
by_none request Nothing ready = if_not (is_head request.method && not ready) Pass (by_row request None ready) refl (if_not (is_conditional request.fields) Pass Fetch refl refl)
by_none request Settled ready = if_not (is_head request.method && not ready) Pass (by_row request None ready) refl (if_not (is_conditional request.fields) Pass Fetch refl refl)

no_check : (request : Request) (begun : Begun) (now : ℕ) → is_check (decision request None begun now) ≡ false
no_check request begun now = decision_off is_check request None begun now (λ status. refl) refl (by_none request begun (is_ready_row request None begun now))

-- ---- what is asked

pub asks_no_page : (d : Decision) → asks_origin d ≡ true → is_page d ≡ false
asks_no_page (Refuse status) asks = absurd (cc asks)
asks_no_page (Hit from to) asks = refl
asks_no_page (Part from to) asks = refl
asks_no_page Head asks = refl
asks_no_page NotModified asks = refl
asks_no_page Unsatisfiable asks = refl
asks_no_page Relay asks = refl
asks_no_page Validate asks = refl
asks_no_page Fetch asks = refl
asks_no_page Pass asks = refl

abbrev version_in : Option Instance → Option Version
version_in o = option_map (λ i. i.version) o

-- it asks, where a check has a row
asks_some : (head : Request) (v : Option Version) (d : Decision) → asks_origin d ≡ true → (is_check d ≡ true → is_some v ≡ true) → is_some (kind_of head v d) ≡ true
asks_some head v (Refuse status) asks row = absurd (cc asks)
asks_some head v (Hit from to) asks row = absurd (cc asks)
asks_some head v (Part from to) asks row = absurd (cc asks)
asks_some head v Head asks row = absurd (cc asks)
asks_some head v NotModified asks row = absurd (cc asks)
asks_some head v Unsatisfiable asks row = absurd (cc asks)
asks_some head v Relay asks row = absurd (cc asks)
asks_some head v Validate asks row = by v (row refl)
  where
    by : (o : Option Version) → is_some o ≡ true → is_some (option_map (λ (x : Version). Check x.tag) o) ≡ true
    by None is = absurd (cc is)
    by (Some x) is = refl
asks_some head v Fetch asks row = refl
asks_some head v Pass asks row = refl

-- the kind of what it asks, whose text fits
record IsKindOf (q : State) (head : Request) (key : Key) (v : Option Version) (d : Decision) : Type 0 where
  pub kind : Kind
  pub is : kind_of head v d ≡ Some kind
  pub fit : fits (text_for q head key kind) ≡ true

module _ (q : State) (seat : Seat) (head : Request) (key : Key) (d : Decision) (asks : asks_origin d ≡ true) where
  kind_in : (row : Option Instance) → decide_request q seat head key row ≡ d → IsKindOf q head key (version_in row) d
  kind_in row is = by (kind_of head (version_in row) first) refl is
    where
      first : Decision
      first = decide_by_row q seat head row

      has_row : (o : Option Instance) → decide_by_row q seat head o ≡ d → is_check d ≡ true → is_some (version_in o) ≡ true
      has_row (Some i) same check = refl
      has_row None same check = let both : true ≡ false = sym check ∙ ap is_check (sym same) ∙ no_check head (begun_in seat.brought None) q.now in absurd (cc both)

      by : (o : Option Kind) → kind_of head (version_in row) first ≡ o → if_fits q head key o first ≡ d → IsKindOf q head key (version_in row) d
      by None none same =
          let some : is_some (kind_of head (version_in row) d) ≡ true = asks_some head (version_in row) d asks (has_row row same) in
          let both : true ≡ false = sym some ∙ ap (λ (x : Decision). is_some (kind_of head (version_in row) x)) (sym same) ∙ ap (λ (o : Option Kind). is_some o) none in
          absurd (cc both)
      by (Some kind) some same = at (fits (text_for q head key kind)) refl same
        where
          at : (b : Bool) → fits (text_for q head key kind) ≡ b → (elim b as (λ t. Decision) [ true ↦ first | false ↦ Refuse 431 ]) ≡ d → IsKindOf q head key (version_in row) d
          at true fit is = record { kind = kind; is = ap (λ (x : Decision). kind_of head (version_in row) x) (sym is) ∙ some; fit = fit }
          at false fit is = let both : true ≡ false = ap is_page is ∙ asks_no_page d asks in absurd (cc both)

-- and it is one
some_mapped : {A B : Type 0} (f : A → B) (o : Option A) → is_some (option_map f o) ≡ is_some o
some_mapped f None = refl
some_mapped f (Some x) = refl

by_fit : (x : Ask) (b : Bool) → b ≡ true → is_some (elim b as (λ t. Option Ask) [ true ↦ Some x | false ↦ None ]) ≡ true
by_fit x true is = refl
by_fit x false is = absurd (cc is)

fit_some : (name : List ℕ) (seat : Seat) (a : Asked) (key : Key) (head : Request) (kind : Kind) → fits (text_by name head key kind) ≡ true → is_some (ask_for_kind name seat a key head (Some kind)) ≡ true
fit_some name seat a key head kind fit =
    let to : Ask → Ask = λ ask. (of_request a seat.body_left head ask.0, ask.1) in
    some_mapped to (ask_by name a key head kind) ∙ by_fit (errand_by a key head kind, text_by name head key kind) (fits (text_by name head key kind)) fit

-- it stands in the head of the request
record IsAskOf (q : State) (seat : Seat) (d : Decision) : Type 0 where
  pub head : Request
  pub fault : Option ℕ
  pub current : current_of seat.client.heard ≡ IsAsked head fault
  pub key : Key
  pub owned : owned_in (asked_in seat.front) ≡ Some key
  pub kind : IsKindOf q head key (version_in (row_of key.text.items q.cache.instances)) d

module _ (q : State) (seat : Seat) (d : Decision) (asks : asks_origin d ≡ true) where
  ask_of : decide q seat ≡ Some d → IsAskOf q seat d
  ask_of = by (refused_in seat.front) (owned_in (asked_in seat.front)) refl
    where
      paged : (status : ℕ) → Refuse status ≡ d → IsAskOf q seat d
      paged status is = let both : true ≡ false = ap is_page is ∙ asks_no_page d asks in absurd (cc both)

      at : (key : Key) → owned_in (asked_in seat.front) ≡ Some key → (heading : Heading) → current_of seat.client.heard ≡ heading → decide_front q seat key heading ≡ d → IsAskOf q seat d
      at key owned NoRequest current is = paged 400 is
      at key owned More current is = paged 400 is
      at key owned (IsNone status) current is = paged 400 is
      at key owned (IsAsked head fault) current is =
          record { head = head; fault = fault; current = current; key = key; owned = owned; kind = kind_in q seat head key d asks (row_of key.text.items q.cache.instances) is }

      by : (r : Option ℕ) (o : Option Key) → owned_in (asked_in seat.front) ≡ o → (elim r as (λ t. Option Decision) [ Some status ↦ Some (Refuse status) | None ↦ option_map (decide_for q seat) o ]) ≡ Some d → IsAskOf q seat d
      by (Some status) o owned is = paged status (some_is (Refuse status) d is)
      by None None owned is = none_some is
      by None (Some key) owned is = at key owned (current_of seat.client.heard) refl (some_is (decide_for q seat key) d is)

  -- so it is asked, where the row of its key is the same
  pub some_asked : due_of q seat ≡ Some (Decide d) → (m : Memory) → ((key : Key) → owned_in (asked_in seat.front) ≡ Some key → row_of key.text.items m.instances ≡ row_of key.text.items q.cache.instances)
      → is_some (by_seat (ask_for q.name.items d m) (Some seat)) ≡ true
  some_asked due m same = by (asked_in seat.front) refl
    where
      its : IsAskOf q seat d
      its = ask_of (decided_of d (asks_no_page d asks) q seat due)

      kind_now : kind_of its.head (version_in (row_of its.key.text.items m.instances)) d ≡ Some its.kind.kind
      kind_now = ap (λ (o : Option Instance). kind_of its.head (version_in o) d) (same its.key its.owned) ∙ its.kind.is

      asked_some : (a : Asked) → is_some (ask_for q.name.items d m seat a its.key its.head) ≡ true
      asked_some a = ap (λ (o : Option Kind). is_some (ask_for_kind q.name.items seat a its.key its.head o)) kind_now ∙ fit_some q.name.items seat a its.key its.head its.kind.kind its.kind.fit

      by : (o : Option Asked) → asked_in seat.front ≡ o → is_some (by_asked (ask_for q.name.items d m seat) (current_of seat.client.heard) o) ≡ true
      by None is = none_some (sym (ap (λ (o : Option Asked). owned_in o) is) ∙ its.owned)
      by (Some a) is =
          ap₂ (λ (heading : Heading) (k : Option Key). is_some (by_key (ask_for q.name.items d m seat a) heading k)) its.current (sym (ap (λ (o : Option Asked). owned_in o) is) ∙ its.owned) ∙ asked_some a
