-- What a client sends is read as the law reads it.
use Rattle.std.proofs.Common.{◌≡◌, ◌<◌, ◌≤◌, ◌-◌, ◌⊎◌, inl, inr, ℕ, Bool, true, false, not, is_ok, List, [], ◌∷◌, ◌++◌, length, take, drop, refl, sym, ◌∙◌, ap, subst, arith, Result, Ok, Err}
use Rattle.std.proofs.lemmas.Bool.{cases_lt}
use Rattle.std.proofs.lemmas.List.{drop_all}
use Rattle.pp_client.specs.Bodies.{IsIdle, IsKept, body_by, kept, later}
use Rattle.pp_client.specs.Replies.{Reply as Said}
use Rattle.pp_client.specs.Requests.{Heard, current_of, heard_in, split_by, with_next}
use Rattle.pp_client.specs.declared.body.Body.{Body}
use Rattle.pp_client.specs.declared.body.Body.TheVariants.{Unread, Dropped, Over}
use Rattle.pp_client.proofs.FoundLemmas.{body_kept, taken_some}
use Rattle.pp_client.proofs.HeadLemmas.{whole_stays}
use Rattle.pp_framing.specs.Framing.{request_rule_of}
use Rattle.pp_framing.specs.declared.body.BodyRule.{BodyRule}
use Rattle.pp_framing.specs.declared.body.BodyRule.TheVariants.{Empty, Length, Chunked, ToEnd}
use Rattle.pp_framing.specs.declared.framing.FramingFault.{FramingFault}
use Rattle.pp_head.specs.Limits.{is_limit_reached}
use Rattle.pp_head.specs.Read.{Read, Stays, Whole, TooLong, Bad, More}
use Rattle.pp_head.specs.Request.{Request, request_at}
use Rattle.pp_head.proofs.RequestAgrees.{request_cut, request_stays, request_within}
use Rattle.pp_law.specs.Hearing.{fronted, what_counts}
use Rattle.pp_law.specs.Lists.{Bytes}
use Rattle.pp_law.specs.Requests.{Front, Parsed, NoHeadYet, NoHead, IsRequest, behind_head, body_len, body_len_by, front_in, front_of, parsed_of}
use Rattle.pp_law.specs.State.{Client, Brought, Awaited}
use Rattle.pp_seats.specs.declared.front.Front.{Front as SeatFront}
use Rattle.pp_seats.specs.declared.front.Front.TheVariants.{NoHeadYet as NoneYet, NoHead as NoneThere, Request as IsThere}
use Rattle.pp_seats.specs.declared.seat.Brought.{Brought as SeatBrought}
use Rattle.pp_seats.specs.declared.seat.Brought.TheVariants.{Awaited as IsAwaited, Useless, Joins, Passes, TooWide, Refused}
use Rattle.pp_seats.specs.declared.seat.Course.{Course as SeatCourse}
use Rattle.pp_seats.specs.declared.seat.Seat.{Seat}
use Rattle.pp_seats.specs.Heads.{IsFrontOf, asked_in, body_len_in}
use Rattle.pp_seats.specs.Seats.{IsRead, IsReadBehind}
use Rattle.pp_seats_law.specs.Fronts.{IsHeadTaken, ShowsBody, ShowsFront, ShowsHeard, StandsStill, has_no_end, is_over}
use Rattle.pp_seats_law.specs.Reads.{HangUpsAreTheLaws, ReadsAreTheLaws, heard_on}
use Rattle.pp_seats_law.specs.Replies.{IsBroughtFor, ShowsBrought, ShowsFate}
use Rattle.pp_seats_law.specs.Seats.{ShowsOpen, ShowsSeat}
use Rattle.pp_seats_law.proofs.Fronts.{fronts}

-- what was heard, and its body, beside what the law keeps of them
pub record IsHeardAs (h : Heard) (front : Front) (behind : Bytes) (left skip : ℕ) : Type 0 where
  pub heard : ShowsHeard h front behind
  pub body : ShowsBody h.body left skip
  pub over : is_over h.body ≡ has_no_end front

abbrev pub of : Bytes → Bytes → Body → Heard
of head rest body = record { head = head; rest = rest; body = body }

-- ---- a head that is whole, by the rule of its body

body_same : (rule : Result BodyRule FramingFault) (skip : ℕ) → skip ≡ 0 → ShowsBody (body_by rule) (body_len_by rule) skip
body_same (Ok Empty) skip none = (refl, none)
body_same (Ok (Length n)) skip none = (refl, none)
body_same (Ok Chunked) skip none = (refl, none)
body_same (Ok ToEnd) skip none = (refl, none)
body_same (Err fault) skip none = (refl, none)

over_same : (rule : Result BodyRule FramingFault) → is_over (body_by rule) ≡ not (is_ok rule)
over_same (Ok Empty) = refl
over_same (Ok (Length n)) = refl
over_same (Ok Chunked) = refl
over_same (Ok ToEnd) = refl
over_same (Err fault) = refl

counts_same : (rule : Result BodyRule FramingFault) (bytes : Bytes) → kept (body_by rule) bytes ≡ (elim rule as (λ c. Bytes) [ Ok r ↦ bytes | Err fault ↦ [] ])
counts_same (Ok Empty) bytes = refl
counts_same (Ok (Length n)) bytes = refl
counts_same (Ok Chunked) bytes = refl
counts_same (Ok ToEnd) bytes = refl
counts_same (Err fault) bytes = refl

head_taken : (head : Bytes) (r : Request) → 0 < length head → request_at head ≡ Whole r → IsHeadTaken head (IsRequest (parsed_of r))
head_taken [] r some is = absurd (omega (arith, some))
head_taken (b ∷ head) r some is = is

idle_some : (head : Bytes) (body : Body) → 0 < length head → IsIdle head body
idle_some [] body some = absurd (omega (arith, some))
idle_some (b ∷ head) body some = tt

-- nothing is dropped any more where a head came
none_skipped : (rest : Bytes) (skip : ℕ) → 0 < length rest → IsKept rest (Dropped skip) → skip ≡ 0
none_skipped [] skip some is = absurd (omega (arith, some))
none_skipped (b ∷ rest) skip some is = is

-- ---- what came is read where there is no request

-- the front of what came, and what the law keeps behind it
pub record IsFrontedBy (h : Heard) (front : Front) (bytes : Bytes) (skip : ℕ) : Type 0 where
  pub exact : front_of (h.head ++ h.rest) ≡ front
  pub stands : IsHeardAs h front (what_counts front (behind_head front bytes)) (body_len front) skip

read_by : (rest : Bytes) (skip : ℕ) (v : Read Request) → request_at rest ≡ v → IsKept rest (Dropped skip) → IsFrontedBy (split_by v (of [] rest (Dropped skip))) (front_in v) rest skip
unfolding front_of
read_by rest skip TooLong read is = record {
  exact = ap front_in read;
  stands = record { heard = record { is_front = (431, ap front_in read); head = tt; behind = refl; kept = is; idle = tt }; body = (refl, refl); over = refl };
}
read_by rest skip Bad read is = record {
  exact = ap front_in read;
  stands = record { heard = record { is_front = (400, ap front_in read); head = tt; behind = refl; kept = is; idle = tt }; body = (refl, refl); over = refl };
}
read_by rest skip More read is = record {
  exact = ap front_in read;
  stands = record { heard = record { is_front = ap front_in read; head = tt; behind = refl; kept = is; idle = tt }; body = (refl, refl); over = refl };
}
read_by rest skip (Whole r) read is =
    let rule : Result BodyRule FramingFault = request_rule_of r.fields in
    let within = request_within rest r read in
    let cut = request_cut rest r read in
    let some : 0 < length (take r.length rest) = taken_some r.length rest within.some within.within in
    let more : Bytes = kept (body_by rule) (drop r.length rest) in
    let enough = within.within in
    let first = within.some in
    let there : 0 < length rest = omega (arith, enough, first) in record {
      exact = ap front_in (whole_stays (take r.length rest) r cut.enough more);
      stands = record {
        heard = record {
          is_front = ap front_in (whole_stays (take r.length rest) r cut.enough more);
          head = head_taken (take r.length rest) r some cut.enough;
          behind = counts_same rule (drop r.length rest);
          kept = body_kept rule (drop r.length rest);
          idle = idle_some (take r.length rest) (body_by rule) some;
        };
        body = body_same rule skip (none_skipped rest skip there is);
        over = over_same rule;
      };
    }

-- what is kept stays in order as more comes
kept_later : (rest : Bytes) (n : ℕ) (bytes : Bytes) → IsKept rest (Dropped n) → IsKept (rest ++ drop n bytes) (Dropped (n - length bytes))
kept_later (b ∷ rest) n bytes is = omega (arith, is)
kept_later [] n bytes is = by (cases_lt n (length bytes))
  where
    none : (rest : Bytes) (m : ℕ) → m ≡ 0 → IsKept rest (Dropped m)
    none [] m zero = tt
    none (b ∷ rest) m zero = zero

    by : (n < length bytes) ⊎ (length bytes ≤ n) → IsKept (drop n bytes) (Dropped (n - length bytes))
    by (inl within) = none (drop n bytes) (n - length bytes) (omega (arith, within))
    by (inr past) = subst (λ (xs : Bytes). IsKept xs (Dropped (n - length bytes))) (sym (drop_all n bytes past)) tt

-- the law's words for what was heard where there is no request
abbrev pub IsFronted : Heard → Bytes → ℕ → Type 0
IsFronted h bytes skip = IsFrontedBy h (front_of bytes) bytes skip

pub read_new : (rest : Bytes) (skip : ℕ) → IsKept rest (Dropped skip) → IsFronted (with_next (of [] rest (Dropped skip))) rest skip
unfolding front_of
read_new rest skip is = read_by rest skip (request_at rest) refl is

first_by : (head rest : Bytes) (body : Body) (left skip : ℕ) (bytes : Bytes) → IsHeadTaken head NoHeadYet → IsKept rest body → IsIdle head body → ShowsBody body left skip → is_over body ≡ false
    → IsFronted (heard_in bytes (of head rest body)) (rest ++ drop skip bytes) (skip - length bytes)
first_by (b ∷ head) rest body left skip bytes taken is idle shows over = absurd taken
first_by [] rest (Unread n) left skip bytes taken is idle shows over = absurd idle
first_by [] rest Over left skip bytes taken is idle shows over = absurd (cc over)
first_by [] rest (Dropped n) left skip bytes taken is idle shows over =
    subst (λ (m : ℕ). IsFronted (with_next (of [] (rest ++ drop n bytes) (Dropped (n - length bytes)))) (rest ++ drop m bytes) (m - length bytes)) (sym shows.1)
    (read_new (rest ++ drop n bytes) (n - length bytes) (kept_later rest n bytes is))

heard_first : (h : Heard) (heard : Bytes) (left skip : ℕ) (bytes : Bytes) → IsHeardAs h NoHeadYet heard left skip → IsFronted (heard_in bytes h) (heard ++ drop skip bytes) (skip - length bytes)
heard_first h heard left skip bytes shows =
    subst (λ (b : Bytes). IsFronted (heard_in bytes h) (b ++ drop skip bytes) (skip - length bytes)) shows.heard.behind
    (first_by h.head h.rest h.body left skip bytes shows.heard.head shows.heard.kept shows.heard.idle shows.body shows.over)

-- ---- where no head is

no_head_stays : (rest more : Bytes) (status : ℕ) (v : Read Request) → request_at rest ≡ v → front_in v ≡ NoHead status → (b : Bool) → is_limit_reached (rest ++ more) ≡ b → (request_at (rest ++ more) ≡ TooLong) ⊎ (request_at (rest ++ more) ≡ Bad)
no_head_stays rest more status (Whole r) read is b limit = absurd (cc is)
no_head_stays rest more status More read is b limit = absurd (cc is)
no_head_stays rest more status TooLong read is b limit = let stays : Stays request_at rest TooLong = subst (Stays request_at rest) read (request_stays rest) in inl (stays more)
no_head_stays rest more status Bad read is true limit =
    let stays : Stays request_at rest Bad = subst (Stays request_at rest) read (request_stays rest) in
    inl (stays more ∙ ap (λ (b : Bool). elim b as (λ c. Read Request) [ true ↦ TooLong | false ↦ Bad ]) limit)
no_head_stays rest more status Bad read is false limit =
    let stays : Stays request_at rest Bad = subst (Stays request_at rest) read (request_stays rest) in
    inr (stays more ∙ ap (λ (b : Bool). elim b as (λ c. Read Request) [ true ↦ TooLong | false ↦ Bad ]) limit)

still_none : (rest more : Bytes) (skip other status : ℕ) → front_of rest ≡ NoHead other → IsKept (rest ++ more) (Dropped skip) → IsHeardAs (with_next (of [] (rest ++ more) (Dropped skip))) (NoHead status) (rest ++ more) 0 skip
unfolding front_of
still_none rest more skip other status is within = by (no_head_stays rest more other (request_at rest) refl is (is_limit_reached (rest ++ more)) refl)
  where
    by : (request_at (rest ++ more) ≡ TooLong) ⊎ (request_at (rest ++ more) ≡ Bad) → IsHeardAs (split_by (request_at (rest ++ more)) (of [] (rest ++ more) (Dropped skip))) (NoHead status) (rest ++ more) 0 skip
    by (inl long) = subst (λ (v : Read Request). IsHeardAs (split_by v (of [] (rest ++ more) (Dropped skip))) (NoHead status) (rest ++ more) 0 skip) (sym long) (record {
      heard = record { is_front = (431, ap front_in long); head = tt; behind = refl; kept = within; idle = tt };
      body = (refl, refl);
      over = refl;
    })
    by (inr bad) = subst (λ (v : Read Request). IsHeardAs (split_by v (of [] (rest ++ more) (Dropped skip))) (NoHead status) (rest ++ more) 0 skip) (sym bad) (record {
      heard = record { is_front = (400, ap front_in bad); head = tt; behind = refl; kept = within; idle = tt };
      body = (refl, refl);
      over = refl;
    })

none_by : (head rest : Bytes) (body : Body) (status left skip : ℕ) (bytes : Bytes) → IsHeadTaken head (NoHead status) → StandsStill (NoHead status) (front_of (head ++ rest)) → IsKept rest body → IsIdle head body → ShowsBody body left skip → is_over body ≡ false
    → IsHeardAs (heard_in bytes (of head rest body)) (NoHead status) (rest ++ drop skip bytes) left (skip - length bytes)
none_by (b ∷ head) rest body status left skip bytes taken still is idle shows over = absurd taken
none_by [] rest (Unread n) status left skip bytes taken still is idle shows over = absurd idle
none_by [] rest Over status left skip bytes taken still is idle shows over = absurd (cc over)
none_by [] rest (Dropped n) status left skip bytes taken still is idle shows over =
    subst (λ (m : ℕ). IsHeardAs (with_next (of [] (rest ++ drop n bytes) (Dropped (n - length bytes)))) (NoHead status) (rest ++ drop m bytes) left (m - length bytes)) (sym shows.1)
    (subst (λ (m : ℕ). IsHeardAs (with_next (of [] (rest ++ drop n bytes) (Dropped (n - length bytes)))) (NoHead status) (rest ++ drop n bytes) m (n - length bytes)) (sym shows.0)
    (still_none rest (drop n bytes) (n - length bytes) still.0 status still.1 (kept_later rest n bytes is)))

heard_none : (h : Heard) (status : ℕ) (heard : Bytes) (left skip : ℕ) (bytes : Bytes) → IsHeardAs h (NoHead status) heard left skip → IsHeardAs (heard_in bytes h) (NoHead status) (heard ++ drop skip bytes) left (skip - length bytes)
heard_none h status heard left skip bytes shows =
    subst (λ (b : Bytes). IsHeardAs (heard_in bytes h) (NoHead status) (b ++ drop skip bytes) left (skip - length bytes)) shows.heard.behind
    (none_by h.head h.rest h.body status left skip bytes shows.heard.head shows.heard.is_front shows.heard.kept shows.heard.idle shows.body shows.over)

-- ---- behind a request

-- what counts of what comes, by the rule of its body
abbrev counting : Result BodyRule FramingFault → Bytes → Bytes
counting rule bytes = elim rule [ Ok r ↦ bytes | Err fault ↦ [] ]

all_count : (rule : Result BodyRule FramingFault) (bytes : Bytes) → false ≡ not (is_ok rule) → counting rule bytes ≡ bytes
all_count (Ok rule) bytes is = refl
all_count (Err fault) bytes is = absurd (cc is)

none_count : (rule : Result BodyRule FramingFault) (bytes : Bytes) → true ≡ not (is_ok rule) → counting rule bytes ≡ []
none_count (Ok rule) bytes is = absurd (cc is)
none_count (Err fault) bytes is = refl

unread_kept : (rest : Bytes) (n : ℕ) → IsKept rest (Unread n)
unread_kept [] n = tt
unread_kept (b ∷ rest) n = tt

pub request_still : (head : Bytes) (r : Request) (more : Bytes) → request_at head ≡ Whole r → front_of (head ++ more) ≡ IsRequest (parsed_of r)
unfolding front_of
request_still head r more is = ap front_in (whole_stays head r is more)

-- what is heard behind it, by its body
behind_by : (rule : Result BodyRule FramingFault) (rest : Bytes) (body : Body) (left skip : ℕ) (bytes : Bytes) → ShowsBody body left skip → is_over body ≡ not (is_ok rule) → rest ++ kept body bytes ≡ rest ++ counting rule (drop skip bytes)
behind_by rule rest (Unread n) left skip bytes shows over = ap (λ (b : Bytes). rest ++ b) (sym (all_count rule (drop skip bytes) over ∙ ap (λ (m : ℕ). drop m bytes) shows.1))
behind_by rule rest (Dropped n) left skip bytes shows over = ap (λ (b : Bytes). rest ++ b) (sym (all_count rule (drop skip bytes) over ∙ ap (λ (m : ℕ). drop m bytes) shows.1))
behind_by rule rest Over left skip bytes shows over = ap (λ (b : Bytes). rest ++ b) (sym (none_count rule (drop skip bytes) over))

body_later : (body : Body) (left skip n : ℕ) → ShowsBody body left skip → ShowsBody (later body n) left (skip - n)
body_later (Unread m) left skip n shows = let none = shows.1 in (shows.0, omega (arith, none))
body_later (Dropped m) left skip n shows = (shows.0, ap (λ (k : ℕ). k - n) shows.1)
body_later Over left skip n shows = let none = shows.1 in (shows.0, omega (arith, none))

over_later : (body : Body) (n : ℕ) → is_over (later body n) ≡ is_over body
over_later (Unread m) n = refl
over_later (Dropped m) n = refl
over_later Over n = refl

more_kept : (rest : Bytes) (body : Body) (bytes : Bytes) → IsKept rest body → IsKept (rest ++ kept body bytes) (later body (length bytes))
more_kept rest (Unread n) bytes is = unread_kept (rest ++ bytes) n
more_kept rest (Dropped n) bytes is = kept_later rest n bytes is
more_kept [] Over bytes is = tt
more_kept (b ∷ rest) Over bytes is = absurd is

request_by : (head rest : Bytes) (body : Body) (r : Parsed) (left skip : ℕ) (bytes : Bytes) → IsHeadTaken head (IsRequest r) → front_of (head ++ rest) ≡ IsRequest r → IsKept rest body → ShowsBody body left skip → is_over body ≡ has_no_end (IsRequest r)
    → IsHeardAs (heard_in bytes (of head rest body)) (IsRequest r) (rest ++ what_counts (IsRequest r) (drop skip bytes)) left (skip - length bytes)
request_by [] rest body r left skip bytes taken still is shows over = absurd taken
request_by (b ∷ head) rest body r left skip bytes taken still is shows over = record {
  heard = record {
    is_front = request_still (b ∷ head) r.head (rest ++ kept body bytes) taken ∙ sym (request_still (b ∷ head) r.head rest taken) ∙ still;
    head = taken;
    behind = behind_by r.rule rest body left skip bytes shows over;
    kept = more_kept rest body bytes is;
    idle = tt;
  };
  body = body_later body left skip (length bytes) shows;
  over = over_later body (length bytes) ∙ over;
}

heard_behind : (h : Heard) (r : Parsed) (heard : Bytes) (left skip : ℕ) (bytes : Bytes) → IsHeardAs h (IsRequest r) heard left skip → IsHeardAs (heard_in bytes h) (IsRequest r) (heard ++ what_counts (IsRequest r) (drop skip bytes)) left (skip - length bytes)
heard_behind h r heard left skip bytes shows =
    subst (λ (b : Bytes). IsHeardAs (heard_in bytes h) (IsRequest r) (b ++ what_counts (IsRequest r) (drop skip bytes)) left (skip - length bytes)) shows.heard.behind
    (request_by h.head h.rest h.body r left skip bytes shows.heard.head shows.heard.is_front shows.heard.kept shows.body shows.over)

-- ---- the seat

heard_of : (number : ℕ → ℕ) (name : Bytes) (owed : List Bytes) (seat : Seat) (c : Client) → ShowsOpen number name owed seat c → (front : Front) → c.front ≡ front → IsHeardAs seat.client.heard front c.heard c.body_left c.skip
heard_of number name owed seat c shows front same = subst (λ (f : Front). IsHeardAs seat.client.heard f c.heard c.body_left c.skip) same (record { heard = shows.heard; body = shows.body; over = shows.over })

-- what the law hears
abbrev more_of : Bytes → Client → Client
more_of bytes c = record c { heard = c.heard ++ what_counts c.front (drop c.skip bytes); skip = c.skip - length bytes }

abbrev read_when : Front → Client → Client
read_when front c = elim front [ NoHeadYet ↦ fronted c | NoHead status ↦ c | IsRequest r ↦ c ]

pub left_same : (nf : SeatFront) (f : Front) → ShowsFront nf f → body_len_in (asked_in nf) ≡ body_len f
left_same NoneYet NoHeadYet shows = refl
left_same (NoneThere status) (NoHead other) shows = refl
left_same (IsThere a) (IsRequest r) shows = shows.body_len
left_same nf f shows = absurd shows

none_brought : (number : ℕ → ℕ) (name : Bytes) (said : Said) (f g : Front) (other : Brought) → ShowsBrought number name said f IsAwaited other → ShowsBrought number name said g IsAwaited other
none_brought number name said f g Awaited shows = tt
none_brought number name said f g other shows = absurd shows

fate_anew : (number : ℕ → ℕ) (name : Bytes) (owed : List Bytes) (said : Said) (course : SeatCourse) (brought : SeatBrought) (c : Client) (f : Front) (heard : Bytes) (left skip : ℕ) → IsBroughtFor NoHeadYet brought → ShowsFate number name owed said course brought c
    → ShowsFate number name owed said course brought (record c { front = f; heard = heard; body_left = left; skip = skip })
fate_anew number name owed said course IsAwaited c f heard left skip none shows = (shows.0, none_brought number name said c.front f c.brought shows.1)
fate_anew number name owed said course brought c f heard left skip none shows = absurd none

brought_for : (brought : SeatBrought) (f : Front) → IsBroughtFor NoHeadYet brought → IsBroughtFor f brought
brought_for IsAwaited NoHeadYet none = tt
brought_for IsAwaited (NoHead status) none = tt
brought_for IsAwaited (IsRequest r) none = tt
brought_for brought f none = absurd none

-- what was read of it, where there was no request
read_first : (number : ℕ → ℕ) (name : Bytes) (owed : List Bytes) (seat : Seat) (c : Client) (bytes : Bytes) (nf : SeatFront) (f : Front) (heard : Bytes) (left skip : ℕ) → ShowsOpen number name owed seat c → c.front ≡ NoHeadYet
    → IsHeardAs (heard_in bytes seat.client.heard) f heard left skip → ShowsFront nf f → left ≡ body_len f
    → ShowsOpen number name owed (record (heard_on bytes seat) { front = nf; body_left = body_len_in (asked_in nf) }) (record c { front = f; heard = heard; body_left = left; skip = skip })
read_first number name owed seat c bytes nf f heard left skip shows none stood front is = record {
  hung_up = shows.hung_up;
  mark = shows.mark;
  heard = stood.heard;
  body = stood.body;
  over = stood.over;
  front = front;
  body_left = left_same nf f front ∙ sym is;
  index = shows.index;
  stage = shows.stage;
  waits_on = shows.waits_on;
  fate = fate_anew number name owed seat.client.reply seat.course seat.brought c f heard left skip (subst (λ (g : Front). IsBroughtFor g seat.brought) none shows.asked) shows.fate;
  asked = brought_for seat.brought f (subst (λ (g : Front). IsBroughtFor g seat.brought) none shows.asked);
  piped = shows.piped;
  given_up = shows.given_up;
  interim = shows.interim;
  before_body = shows.before_body;
  closes = shows.closes;
}

-- what was heard behind what stands there
fate_later : (number : ℕ → ℕ) (name : Bytes) (owed : List Bytes) (said : Said) (course : SeatCourse) (brought : SeatBrought) (c : Client) (heard : Bytes) (skip : ℕ) → ShowsFate number name owed said course brought c → ShowsFate number name owed said course brought (record c { heard = heard; skip = skip })
fate_later number name owed said course Refused c heard skip shows = record { waits = shows.waits; joins = shows.joins; refused = shows.refused }
fate_later number name owed said course IsAwaited c heard skip shows = shows
fate_later number name owed said course Useless c heard skip shows = shows
fate_later number name owed said course (Joins id plain) c heard skip shows = shows
fate_later number name owed said course (Passes x) c heard skip shows = shows
fate_later number name owed said course TooWide c heard skip shows = shows

read_later : (number : ℕ → ℕ) (name : Bytes) (owed : List Bytes) (seat : Seat) (c : Client) (bytes : Bytes) (heard : Bytes) (skip : ℕ) → ShowsOpen number name owed seat c → IsHeardAs (heard_in bytes seat.client.heard) c.front heard c.body_left skip
    → ShowsOpen number name owed (heard_on bytes seat) (record c { heard = heard; skip = skip })
read_later number name owed seat c bytes heard skip shows stood = record {
  hung_up = shows.hung_up;
  mark = shows.mark;
  heard = stood.heard;
  body = stood.body;
  over = stood.over;
  front = shows.front;
  body_left = shows.body_left;
  index = shows.index;
  stage = shows.stage;
  waits_on = shows.waits_on;
  fate = fate_later number name owed seat.client.reply seat.course seat.brought c heard skip shows.fate;
  asked = shows.asked;
  piped = shows.piped;
  given_up = shows.given_up;
  interim = shows.interim;
  before_body = shows.before_body;
  closes = shows.closes;
}

open_seat : (number : ℕ → ℕ) (name : Bytes) (owed : List Bytes) (seat : Seat) (c : Client) → seat.client.id ≡ c.number → seat.is_closing ≡ c.is_closing → ShowsOpen number name owed seat c → ShowsSeat number name owed seat c
open_seat number name owed seat c numbered closing shows = record { number = numbered; closing = closing; going = λ going. shows }

pub front_seen : (nf : SeatFront) (h : Heard) (f : Front) → IsFrontOf nf (current_of h) → front_of (h.head ++ h.rest) ≡ f → ShowsFront nf f
front_seen nf h f is exact = subst (λ (g : Front). ShowsFront nf g) exact (fronts nf h is)

read_none : (number : ℕ → ℕ) (name : Bytes) (owed : List Bytes) (seat new : Seat) (c : Client) (bytes : Bytes) (sf : SeatFront) → ShowsSeat number name owed seat c → c.is_closing ≡ false → c.front ≡ NoHeadYet → ShowsFront sf NoHeadYet → IsReadBehind sf (heard_on bytes seat) new
    → ShowsSeat number name owed new (fronted (more_of bytes c))
read_none number name owed seat new c bytes (NoneThere status) shows going none front is = absurd front
read_none number name owed seat new c bytes (IsThere a) shows going none front is = absurd front
read_none number name owed seat new c bytes NoneYet shows going none front is =
    let all : Bytes = c.heard ++ what_counts c.front (drop c.skip bytes) in
    let there : IsFronted (heard_in bytes seat.client.heard) all (c.skip - length bytes)
    = subst (λ (f : Front). IsFronted (heard_in bytes seat.client.heard) (c.heard ++ what_counts f (drop c.skip bytes)) (c.skip - length bytes)) (sym none)
    (heard_first seat.client.heard c.heard c.body_left c.skip bytes (heard_of number name owed seat c (shows.going going) NoHeadYet none)) in
    subst (λ (s : Seat). ShowsSeat number name owed s (fronted (more_of bytes c))) (sym is.1)
    (open_seat number name owed (record (heard_on bytes seat) { front = new.front; body_left = body_len_in (asked_in new.front) }) (fronted (more_of bytes c)) shows.number shows.closing
    (read_first number name owed seat c bytes new.front (front_of all) (what_counts (front_of all) (behind_head (front_of all) all)) (body_len (front_of all)) (c.skip - length bytes) (shows.going going) none there.stands
    (front_seen new.front (heard_in bytes seat.client.heard) (front_of all) is.0 there.exact) refl))

-- where something stood there already nothing else is read
read_there : (sf : SeatFront) (f : Front) (old new : Seat) → ShowsFront sf f → (f ≡ NoHeadYet → ⊥) → IsReadBehind sf old new → new ≡ old
read_there NoneYet NoHeadYet old new shows some is = absurd (some refl)
read_there (NoneThere status) (NoHead other) old new shows some is = is
read_there (IsThere a) (IsRequest r) old new shows some is = is
read_there sf f old new shows some is = absurd shows

read_more : (number : ℕ → ℕ) (name : Bytes) (owed : List Bytes) (seat new : Seat) (c : Client) (bytes : Bytes) (front : Front) → ShowsSeat number name owed seat c → c.is_closing ≡ false → c.front ≡ front → (front ≡ NoHeadYet → ⊥) → IsRead (heard_on bytes seat) new
    → IsHeardAs (heard_in bytes seat.client.heard) front (c.heard ++ what_counts front (drop c.skip bytes)) c.body_left (c.skip - length bytes) → ShowsSeat number name owed new (more_of bytes c)
read_more number name owed seat new c bytes front shows going same some is stood =
    subst (λ (s : Seat). ShowsSeat number name owed s (more_of bytes c)) (sym (read_there seat.front c.front (heard_on bytes seat) new (shows.going going).front (λ none. some (sym same ∙ none)) is))
    (open_seat number name owed (heard_on bytes seat) (more_of bytes c) shows.number shows.closing
    (read_later number name owed seat c bytes (c.heard ++ what_counts c.front (drop c.skip bytes)) (c.skip - length bytes) (shows.going going)
    (subst (λ (f : Front). IsHeardAs (heard_in bytes seat.client.heard) f (c.heard ++ what_counts f (drop c.skip bytes)) c.body_left (c.skip - length bytes)) (sym same) stood)))

read_at : (number : ℕ → ℕ) (name : Bytes) (owed : List Bytes) (seat new : Seat) (c : Client) (bytes : Bytes) (front : Front) → ShowsSeat number name owed seat c → c.is_closing ≡ false → c.front ≡ front → IsRead (heard_on bytes seat) new
    → ShowsSeat number name owed new (read_when front (more_of bytes c))
read_at number name owed seat new c bytes NoHeadYet shows going same is =
    read_none number name owed seat new c bytes seat.front shows going same (subst (λ (f : Front). ShowsFront seat.front f) same (shows.going going).front) is
read_at number name owed seat new c bytes (NoHead status) shows going same is =
    read_more number name owed seat new c bytes (NoHead status) shows going same (λ e. absurd (cc e)) is
    (heard_none seat.client.heard status c.heard c.body_left c.skip bytes (heard_of number name owed seat c (shows.going going) (NoHead status) same))
read_at number name owed seat new c bytes (IsRequest r) shows going same is =
    read_more number name owed seat new c bytes (IsRequest r) shows going same (λ e. absurd (cc e)) is
    (heard_behind seat.client.heard r c.heard c.body_left c.skip bytes (heard_of number name owed seat c (shows.going going) (IsRequest r) same))

pub reads : ReadsAreTheLaws
reads number name owed seat new c bytes shows going is = read_at number name owed seat new c bytes c.front shows going refl is

-- ---- it sends no more

fate_hung : (number : ℕ → ℕ) (name : Bytes) (owed : List Bytes) (said : Said) (course : SeatCourse) (brought : SeatBrought) (c : Client) → ShowsFate number name owed said course brought c → ShowsFate number name owed said course brought (record c { has_hung_up = true })
fate_hung number name owed said course Refused c shows = record { waits = shows.waits; joins = shows.joins; refused = shows.refused }
fate_hung number name owed said course IsAwaited c shows = shows
fate_hung number name owed said course Useless c shows = shows
fate_hung number name owed said course (Joins id plain) c shows = shows
fate_hung number name owed said course (Passes x) c shows = shows
fate_hung number name owed said course TooWide c shows = shows

open_hung : (number : ℕ → ℕ) (name : Bytes) (owed : List Bytes) (seat : Seat) (c : Client) → ShowsOpen number name owed seat c → ShowsOpen number name owed (record seat { has_hung_up = true }) (record c { has_hung_up = true })
open_hung number name owed seat c shows = record {
  hung_up = refl;
  mark = shows.mark;
  heard = shows.heard;
  body = shows.body;
  over = shows.over;
  front = shows.front;
  body_left = shows.body_left;
  index = shows.index;
  stage = shows.stage;
  waits_on = shows.waits_on;
  fate = fate_hung number name owed seat.client.reply seat.course seat.brought c shows.fate;
  asked = shows.asked;
  piped = shows.piped;
  given_up = shows.given_up;
  interim = shows.interim;
  before_body = shows.before_body;
  closes = shows.closes;
}

pub hang_ups : HangUpsAreTheLaws
hang_ups number name owed seat c shows = record { number = shows.number; closing = shows.closing; going = λ going. open_hung number name owed seat c (shows.going going) }
