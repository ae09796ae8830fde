-- A page that is due is one that there is, has room, and may be given; and for want of memory none is due but to whom a row was refused.
use Rattle.std.proofs.Common.{◌≡◌, ◌⊎◌, ◌≤◌, inl, inr, refl, sym, subst, ap, ◌∙◌, ℕ, Bool, true, false, not, ◌&&◌, ◌||◌, ◌==◌, length, List, ◌++◌, Option, Some, None, arith}
use Rattle.std.proofs.lemmas.Bool.Decides.{nat_tests}
use Rattle.std.specs.Fmt.{digits}
use Rattle.std.specs.Prelude.{codes, is_some, nat_le}
use Rattle.pp_cache_law.proofs.Numbers.{is_same}
use Rattle.pp_client.specs.Replies.{Reply as Said}
use Rattle.pp_law.specs.Deciding.{is_for_memory}
use Rattle.pp_law.specs.Decisions.{decide, decide_head}
use Rattle.pp_law.specs.Due.{due_by_stage, due_reply, give_up, is_told}
use Rattle.pp_law.specs.Lists.{Bytes}
use Rattle.pp_law.specs.Requests.{Front, NoHeadYet, NoHead, IsRequest, has_request, parsed_in}
use Rattle.pp_law.specs.Sharing.{due_undecided}
use Rattle.pp_law.specs.Stages.{is_begun, is_page, is_undecided}
use Rattle.pp_law.specs.State.{State, AskTooLong, Client, Course, OutOfTries, RowRefused, Stage, Trying, Undecided, Waiting, Passing, Answering}
use Rattle.pp_laws_left.proofs.Fine.{Places, begun, undecided}
use Rattle.pp_reply.specs.Texts.{has_page, is_last, page_body, page_head}
use Rattle.pp_seats.specs.Decided.{page_for, shown_status}
use Rattle.pp_seats.specs.Dues.{is_refused_in, refused_in}
use Rattle.pp_seats.specs.Heads.{asked_in, head_asked_in, keeps_in}
use Rattle.pp_seats.specs.declared.front.Front.{Front as SeatFront}
use Rattle.pp_seats.specs.declared.front.Front.TheVariants.{NoHeadYet as NoneYet, NoHead as NoneThere, Request as IsThere}
use Rattle.pp_seats.specs.declared.seat.Brought.{Brought as SeatBrought}
use Rattle.pp_seats.specs.declared.seat.Brought.TheVariants.{Awaited, Useless, Joins, Passes, TooWide, Refused}
use Rattle.pp_seats.specs.declared.seat.Course.{Course as SeatCourse}
use Rattle.pp_seats.specs.declared.seat.Course.TheVariants.{Trying as IsTrying, OutOfTries as IsOut, AskTooLong as IsTooLong}
use Rattle.pp_seats_law.specs.Fronts.{ShowsFront}
use Rattle.pp_seats_law.specs.Replies.{ShowsFate, course_of}
use Rattle.pp_world.specs.declared.note.Decision.{Decision}
use Rattle.pp_world.specs.declared.note.Decision.TheVariants.{Refuse, Hit, Part, Head, NotModified, Unsatisfiable, Relay, Validate, Fetch, Pass}
use Rattle.pp_rests_law.proofs.Plans.{decide_on, due_from, from_undecided}

-- ---- it is short

at_most : (a b : ℕ) → nat_le a b ≡ true → a ≤ b
at_most a b le = grind (arith, nat_tests)

abbrev title_by : Bool → Bool → Bool → Bool → Bool → Bytes
title_by a b c d e = elim a [
  | true ↦ codes "400 Bad Request"
  | false ↦ elim b [
    | true ↦ codes "411 Length Required"
    | false ↦ elim c [
      | true ↦ codes "431 Request Header Fields Too Large"
      | false ↦ elim d [
        | true ↦ codes "500 Internal Server Error"
        | false ↦ elim e [ true ↦ codes "502 Bad Gateway" | false ↦ codes "504 Gateway Timeout" ]
      ]
    ]
  ]
]

abbrev IsShort : Bytes → Type 0
IsShort title = (keep head : Bool) → nat_le (length (page_head title keep ++ page_body title head)) 20480 ≡ true

by_title : (title : Bytes) → nat_le (length (page_head title true ++ page_body title true)) 20480 ≡ true → nat_le (length (page_head title true ++ page_body title false)) 20480 ≡ true → nat_le (length (page_head title false ++ page_body title true)) 20480 ≡ true
    → nat_le (length (page_head title false ++ page_body title false)) 20480 ≡ true → IsShort title
by_title title tt_ tf ft ff true true = tt_
by_title title tt_ tf ft ff true false = tf
by_title title tt_ tf ft ff false true = ft
by_title title tt_ tf ft ff false false = ff

short_by : (a b c d e : Bool) → IsShort (title_by a b c d e)
unfolding digits
short_by true b c d e = by_title (codes "400 Bad Request") refl refl refl refl
short_by false true c d e = by_title (codes "411 Length Required") refl refl refl refl
short_by false false true d e = by_title (codes "431 Request Header Fields Too Large") refl refl refl refl
short_by false false false true e = by_title (codes "500 Internal Server Error") refl refl refl refl
short_by false false false false true = by_title (codes "502 Bad Gateway") refl refl refl refl
short_by false false false false false = by_title (codes "504 Gateway Timeout") refl refl refl refl

pub page_room : (status : ℕ) (front : SeatFront) → length (page_for status front) ≤ 20480
page_room status front = by (shown_status status)
  where
    by : (n : ℕ) → length (page_head (title_by (n == 400) (n == 411) (n == 431) (n == 500) (n == 502)) (keeps_in status (asked_in front) && not (is_last n)) ++ page_body (title_by (n == 400) (n == 411) (n == 431) (n == 500) (n == 502)) (head_asked_in (asked_in front))) ≤ 20480
    by n = at_most _ 20480 (short_by (n == 400) (n == 411) (n == 431) (n == 500) (n == 502) (keeps_in status (asked_in front) && not (is_last n)) (head_asked_in (asked_in front)))

-- ---- there is one

abbrev pub is_paged : Decision → Bool
is_paged (Refuse status) = has_page status
is_paged d = true

paged_else : (d : Decision) → is_page d ≡ false → is_paged d ≡ true
paged_else (Refuse status) page = absurd (cc page)
paged_else (Hit from to) page = refl
paged_else (Part from to) page = refl
paged_else Head page = refl
paged_else NotModified page = refl
paged_else Unsatisfiable page = refl
paged_else Relay page = refl
paged_else Validate page = refl
paged_else Fetch page = refl
paged_else Pass page = refl

given_paged : (course : Course) (d : Decision) → give_up course None ≡ Some d → is_paged d ≡ true
given_paged (Trying n) d is = absurd (cc is)
given_paged OutOfTries d is = let one : Refuse 502 ≡ d = cc is in ap is_paged (sym one)
given_paged AskTooLong d is = let one : Refuse 431 ≡ d = cc is in ap is_paged (sym one)
given_paged RowRefused d is = let one : Refuse 500 ≡ d = cc is in ap is_paged (sym one)

pub has_its_page : (s : State) (c : Client) (d : Decision) → ((status : ℕ) → c.front ≡ NoHead status → has_page status ≡ true) → due_by_stage s c ≡ Some d → is_paged d ≡ true
has_its_page s c d pages due = by (due_from s c d due)
  where
    by : (decide s c ≡ Some d) ⊎ (give_up c.course None ≡ Some d) → is_paged d ≡ true
    by (inl is) = decide_on is_paged paged_else refl refl refl refl s c pages d is
    by (inr is) = given_paged c.course d is

-- ---- none is for want of memory

abbrev is_else : Decision → Bool
is_else d = not (is_for_memory d)

else_else : (d : Decision) → is_page d ≡ false → is_else d ≡ true
else_else (Refuse status) page = absurd (cc page)
else_else (Hit from to) page = refl
else_else (Part from to) page = refl
else_else Head page = refl
else_else NotModified page = refl
else_else Unsatisfiable page = refl
else_else Relay page = refl
else_else Validate page = refl
else_else Fetch page = refl
else_else Pass page = refl

-- memory was not refused for a row that its exchange brought
course_kept : (number : ℕ → ℕ) (name : Bytes) (owed : List Bytes) (said : Said) (course : SeatCourse) (brought : SeatBrought) (c : Client) → is_refused_in brought ≡ false → ShowsFate number name owed said course brought c → course_of course ≡ c.course
course_kept number name owed said course Awaited c given fate = fate.0
course_kept number name owed said course Useless c given fate = fate.0
course_kept number name owed said course (Joins id plain) c given fate = fate.0
course_kept number name owed said course (Passes x) c given fate = fate.0
course_kept number name owed said course TooWide c given fate = fate.0
course_kept number name owed said course Refused c given fate = absurd (cc given)

given_else : (course : SeatCourse) (d : Decision) → give_up (course_of course) None ≡ Some d → is_else d ≡ true
given_else (IsTrying n) d is = absurd (cc is)
given_else IsOut d is = let one : Refuse 502 ≡ d = cc is in ap is_else (sym one)
given_else IsTooLong d is = let one : Refuse 431 ≡ d = cc is in ap is_else (sym one)

-- nor for its key
head_given : (front : SeatFront) (other : Front) → ShowsFront front other → (refused_in front ≡ Some 500 → ⊥) → (status : ℕ) → other ≡ NoHead status → not (status == 500) ≡ true
head_given NoneYet NoHeadYet shows given status is = absurd (cc is)
head_given (IsThere a) (IsRequest r) shows given status is = absurd (cc is)
head_given (NoneThere n) (NoHead m) shows given status is = by (status == 500) refl
  where
    same : m ≡ status
    same = cc is

    by : (b : Bool) → (status == 500) ≡ b → not b ≡ true
    by false at = refl
    by true at = absurd (given (ap (λ (k : ℕ). Some k) (shows ∙ same ∙ is_same status 500 at)))
head_given front other shows given status is = absurd shows

pub is_not_for_memory : (number : ℕ → ℕ) (name : Bytes) (owed : List Bytes) (said : Said) (course : SeatCourse) (brought : SeatBrought) (front : SeatFront) (s : State) (c : Client) (d : Decision) → is_refused_in brought ≡ false → ShowsFate number name owed said course brought c → ShowsFront front c.front
    → (refused_in front ≡ Some 500 → ⊥) → due_by_stage s c ≡ Some d → not (is_for_memory d) ≡ true
is_not_for_memory number name owed said course brought front s c d given fate shows key due = by (due_from s c d due)
  where
    by : (decide s c ≡ Some d) ⊎ (give_up c.course None ≡ Some d) → is_else d ≡ true
    by (inl is) = decide_on is_else else_else refl refl refl refl s c (head_given front c.front shows key) d is
    by (inr is) = given_else course d (subst (λ (x : Course). give_up x None ≡ Some d) (sym (course_kept number name owed said course brought c given fate)) is)

-- ---- it may be given, and what is no head was not decided before

module _ (s : State) (c : Client) (d : Decision) (places : parsed_in c.front ≡ None → Places c.stage) (due : due_by_stage s c ≡ Some d) (unbegun : is_begun c ≡ false) where
  undecided_at : is_undecided c.stage ≡ true → due_undecided s c ≡ Some d
  undecided_at is = by c.stage refl is
    where
      at : (stage : Stage) → c.stage ≡ stage → due_by_stage s c ≡ (elim stage as (λ y. Option Decision) [
        | Undecided ↦ due_undecided s c
        | Waiting ↦ give_up c.course (elim (is_told c.brought) as (λ y. Option Decision) [ true ↦ decide s c | false ↦ None ])
        | Passing ↦ give_up c.course None
        | Answering q ↦ due_reply s c q
      ])
      at stage is = ap (λ (x : Stage). elim x as (λ y. Option Decision) [
        | Undecided ↦ due_undecided s c
        | Waiting ↦ give_up c.course (elim (is_told c.brought) as (λ y. Option Decision) [ true ↦ decide s c | false ↦ None ])
        | Passing ↦ give_up c.course None
        | Answering q ↦ due_reply s c q
      ]) is

      by : (stage : Stage) → c.stage ≡ stage → is_undecided stage ≡ true → due_undecided s c ≡ Some d
      by Undecided is so = sym (at Undecided is) ∙ due
      by Waiting is so = absurd (cc so)
      by Passing is so = absurd (cc so)
      by (Answering r) is so = absurd (cc so)

  -- where no head is, nothing was decided yet
  fresh : parsed_in c.front ≡ None → is_undecided c.stage ≡ true
  fresh none = by (places none)
    where
      by : Places c.stage → is_undecided c.stage ≡ true
      by (undecided is) = is
      by (begun is) = let both : true ≡ false = sym is ∙ unbegun in absurd (cc both)

  pub first : (is_undecided c.stage || is_some (parsed_in c.front)) ≡ true
  first = by (parsed_in c.front) refl
    where
      or_true : (b : Bool) → (b || true) ≡ true
      or_true true = refl
      or_true false = refl

      by : (o : Option _) → parsed_in c.front ≡ o → (is_undecided c.stage || is_some o) ≡ true
      by None is = ap (λ (b : Bool). b || false) (fresh is)
      by (Some r) is = or_true (is_undecided c.stage)

  pub asked : has_request c.front ≡ true
  asked = by c.front refl
    where
      by : (front : Front) → c.front ≡ front → has_request front ≡ true
      by (NoHead status) is = refl
      by (IsRequest r) is = refl
      by NoHeadYet is =
          let decided : decide s c ≡ Some d = from_undecided s c d (undecided_at (fresh (ap parsed_in is))) in
          let none : decide s c ≡ None = ap (λ (f : Front). elim f as (λ y. Option Decision) [ NoHeadYet ↦ None | NoHead status ↦ Some (Refuse status) | IsRequest r ↦ Some (decide_head s c r) ]) is in
          let both : None ≡ Some d = sym none ∙ decided in
          absurd (cc both)
