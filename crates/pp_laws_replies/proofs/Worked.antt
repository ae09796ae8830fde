-- The laws' words on worked logs: what they hold of, and what they refuse.
use Rattle.std.proofs.Common.{◌≡◌, ◌⊎◌, refl, ℕ, ◌+◌, ◌≤◌, nat_le, Bool, true, false, ◌==◌, List, [], ◌∷◌, ◌++◌, length, codes, Option, None, inl, inr, sym, subst, ap, ◌∙◌, length-append, arith}
use Rattle.std.proofs.lemmas.Bool.Decides.{nat_tests}
use Rattle.std.specs.List.{concat}
use Rattle.pp_framing.specs.declared.body.BodyRule.TheVariants.{Length}
use Rattle.pp_head.specs.Response.{Response}
use Rattle.pp_reply.specs.Texts.{page, page_head, page_body}
use Rattle.pp_world.specs.Log.{Log}
use Rattle.pp_world.specs.Streams.{heard, said}
use Rattle.pp_world.specs.declared.happening.Happening.{Happening}
use Rattle.pp_world.specs.declared.happening.Happening.TheVariants.{Woke, Waits, CanRead, CanWrite, Clock, Opened, Heard, Said, Shut, Dialled, Reached, Asked, Got, Noted, Rooted, Listed, Listens}
use Rattle.pp_world.specs.declared.note.Decision.{Decision}
use Rattle.pp_world.specs.declared.note.Decision.TheVariants.{Refuse, Pass}
use Rattle.pp_world.specs.declared.note.Remark.TheVariants.{Taken}
use Rattle.pp_law.proofs.OnLiterals.{pp_law_on_literals}
use Rattle.pp_law.specs.Lawful.{first_fault}
use Rattle.pp_law.specs.Lists.{Bytes}
use Rattle.pp_law.specs.Requests.{Front, Parsed, NoHeadYet, NoHead as NoFront, IsRequest, front_of, parsed_of}
use Rattle.pp_law.specs.State.{Term}
use Rattle.pp_laws_replies.specs.Replies.{head_len, taken, IsFrontAt, IsPassedHead, IsReply, is_page, is_kept, is_passed, IsWholeReply, IsFrontOfReply, before, within, AreHeard, AreReplies, SaysInOrder}

-- runs of one chunk, asks that are pipelined, and four connections to a host
abbrev pub small_words : List Bytes
small_words = codes "diskRun=1" ∷ codes "pipelineAsks=1" ∷ codes "hostConnections=4" ∷ []

-- one life, in which nothing fails outside
abbrev pub one_life : List Term
one_life = record { words = small_words; faults = 0 } ∷ []

-- it waits to accept, and for these to be read and to be written
abbrev pub wait : List ℕ → List ℕ → Happening
wait read write = Waits (record { accept = true; read = record { items = read }; write = record { items = write } })

-- the clock tells Sun, 06 Nov 1994 08:49:37 GMT
abbrev pub opening : Log
opening = Woke [] ∷ Rooted (codes "polipo-cache") ∷ Listed true ∷ Listens 8123 true ∷ wait [] [] ∷ Clock 784111777 ∷ wait [] [] ∷ []

-- client 1 comes, and sends this
abbrev pub client_sends : Bytes → Log
client_sends bytes = Opened 1 ∷ wait (1 ∷ []) [] ∷ CanRead 1 ∷ Heard 1 bytes ∷ []

-- ---- requests, one right behind the other

-- a body that could be read as a request
abbrev post : Bytes
post = codes "POST http://h/a HTTP/1.1\r\nHost: h\r\nContent-Length: 27\r\n\r\n"

abbrev inside : Bytes
inside = codes "GET http://h/b HTTP/1.1\r\n\r\n"

abbrev second : Bytes
second = codes "GET http://h/c HTTP/1.1\r\nHost: h\r\n\r\n"

behind_the_body : AreHeard (post ++ inside ++ second) (front_of post ∷ front_of second ∷ [])
unfolding pp_law_on_literals
behind_the_body = (refl, (refl, tt))

-- what stands in a body is no request
never_inside : AreHeard (post ++ inside ++ second) (front_of post ∷ front_of inside ∷ []) → ⊥
unfolding pp_law_on_literals
never_inside w = let both : false ≡ true = ap (λ (f : Front). head_len f == 27) w.1.0 in cc both

-- none is passed over
never_past : AreHeard (inside ++ second) (front_of second ∷ []) → ⊥
unfolding pp_law_on_literals
never_past w = let both : false ≡ true = ap (λ (f : Front). head_len f == 36) w.0 in cc both

-- ---- a reply that is passed

-- a request that no cache may answer
abbrev request : Bytes
request = codes "GET http://h/a HTTP/1.1\r\nHost: h\r\nCache-Control: no-store\r\n\r\n"

abbrev parsed : Parsed
parsed = parsed_of (record { method = codes "GET"; target = codes "http://h/a"; minor = 1; fields = (codes "Host", codes "h") ∷ (codes "Cache-Control", codes "no-store") ∷ []; length = 61 })

-- its origin, connection 2, is dialled, reached and asked, and answers
abbrev answered : Log
answered =
    Dialled 2 (codes "h") 80 ∷ wait (1 ∷ []) [] ∷ Reached 2 ∷ wait (1 ∷ 2 ∷ []) (2 ∷ []) ∷ CanWrite 2
    ∷ Asked 2 (codes "GET /a HTTP/1.1\r\nhost: h\r\ncache-control: no-store\r\nvia: 1.1 polipo\r\n\r\n") ∷ wait (1 ∷ 2 ∷ []) []
    ∷ CanRead 2 ∷ Got 2 (codes "HTTP/1.1 200 OK\r\nContent-Length: 5\r\n\r\nhello") ∷ wait (1 ∷ 2 ∷ []) (1 ∷ []) ∷ []

abbrev response : Response
response = record { minor = 1; status = 200; reason = codes "OK"; fields = (codes "Content-Length", codes "5") ∷ []; length = 38 }

abbrev passed : Bytes
passed = codes "HTTP/1.1 200 OK\r\nvia: 1.1 polipo\r\ncontent-length: 5\r\nconnection: keep-alive\r\n\r\n"

abbrev relayed : Log
relayed =
    opening ++ client_sends request ++ Noted (Taken 1 0 Pass) ∷ answered
    ++ CanWrite 1 ∷ Said 1 79 passed ∷ wait (1 ∷ 2 ∷ []) (1 ∷ []) ∷ CanWrite 1 ∷ Said 1 5 (codes "hello") ∷ wait (1 ∷ 2 ∷ []) [] ∷ []

relayed_is_lawful : first_fault one_life relayed ≡ None
unfolding pp_law_on_literals
relayed_is_lawful = refl

relayed_whole : IsWholeReply (front_of request) (taken 1 relayed 0) (passed ++ codes "hello")
unfolding pp_law_on_literals
relayed_whole = record {
  decision = Pass;
  by = refl;
  head = passed;
  body = codes "hello";
  spelled = refl;
  is = is_passed parsed refl refl (record { response = response; rule = Length 5; name = codes "polipo"; spelled = refl }) refl;
}

relayed_in_order : SaysInOrder (heard 1 relayed) (said 1 relayed) (taken 1 relayed)
unfolding pp_law_on_literals heard said
relayed_in_order = record {
  requests = front_of request ∷ [];
  are_heard = (refl, tt);
  replies = (passed ++ codes "hello") ∷ [];
  each = (relayed_whole, tt);
  next = NoHeadYet;
  last = [];
  front = before [] refl;
  next_heard = inl refl;
  all = refl;
}

-- ---- nothing behind a reply that closes

abbrev bad : Bytes
bad = codes "bad\r\n\r\n"

abbrev refusal : Bytes
refusal = codes "HTTP/1.1 400 Bad Request\r\ncontent-type: text/plain\r\ncontent-length: 16\r\nconnection: close\r\n\r\n400 Bad Request\n"

abbrev refused : Log
refused = opening ++ client_sends bad ++ Noted (Taken 1 0 (Refuse 400)) ∷ wait [] (1 ∷ []) ∷ CanWrite 1 ∷ Said 1 109 refusal ∷ Shut 1 ∷ wait [] [] ∷ []

refused_is_lawful : first_fault one_life refused ≡ None
unfolding pp_law_on_literals
refused_is_lawful = refl

refused_in_order : SaysInOrder (heard 1 refused) (said 1 refused) (taken 1 refused)
unfolding pp_law_on_literals heard said
refused_in_order = record {
  requests = [];
  are_heard = tt;
  replies = [];
  each = tt;
  next = NoFront 400;
  last = refusal;
  front = within (Refuse 400) refl true refusal [] [] refl (inl refl) (is_page 400 refl refl refl refl);
  next_heard = inr ((400, refl), tt);
  all = refl;
}

-- no reply to it leaves the connection open
always_closes : (f : Front) (d : Decision) → IsFrontAt f (front_of bad) → (head body : Bytes) → IsReply f d true false head body → ⊥
unfolding pp_law_on_literals
always_closes NoHeadYet d at head body is = at
always_closes (NoFront other) d at head body (is_page status is_decided spelled none closes) = cc closes
always_closes (NoFront other) d at head body (is_kept r front by k short long closes) = cc front
always_closes (NoFront other) d at head body (is_passed r front is_on p closes) = cc front
always_closes (IsRequest r) d at head body is = cc at

no_whole : (decided : ℕ → Option Decision) (fs : List Front) (texts : List Bytes) → AreHeard bad fs → AreReplies decided fs texts → (fs ≡ []) × (texts ≡ [])
no_whole decided [] [] there each = (refl, refl)
no_whole decided [] (t ∷ texts) there each = absurd each
no_whole decided (f ∷ fs) [] there each = absurd each
no_whole decided (f ∷ fs) (t ∷ texts) there each = absurd (always_closes f each.0.decision there.0 each.0.head each.0.body each.0.is)

at_most : (a b : ℕ) → nat_le a b ≡ true → a ≤ b
at_most a b le = grind (arith, nat_tests)

-- each page is shorter than two
short_by : (a b c d e : Bool) → let title : Bytes = elim a as (λ x. Bytes) [
  | true ↦ codes "400 Bad Request"
  | false ↦ elim b as (λ x. Bytes) [
    | true ↦ codes "411 Length Required"
    | false ↦ elim c as (λ x. Bytes) [
      | true ↦ codes "431 Request Header Fields Too Large"
      | false ↦ elim d as (λ x. Bytes) [
        | true ↦ codes "500 Internal Server Error"
        | false ↦ elim e as (λ x. Bytes) [ true ↦ codes "502 Bad Gateway" | false ↦ codes "504 Gateway Timeout" ]
      ]
    ]
  ]
] in nat_le (length (page_head title false ++ page_body title false)) 200 ≡ true
unfolding pp_law_on_literals
short_by true b c d e = refl
short_by false true c d e = refl
short_by false false true d e = refl
short_by false false false true e = refl
short_by false false false false true = refl
short_by false false false false false = refl

short_page : (status : ℕ) → length (page status false false) ≤ 200
short_page status = at_most _ 200 (short_by (status == 400) (status == 411) (status == 431) (status == 500) (status == 502))

front_is_short : (text left whole : Bytes) (n : ℕ) → text ++ left ≡ whole → length whole ≤ n → length text ≤ n
front_is_short text left whole n is le = let both : length text + length left ≡ length whole = sym (length-append text left) ∙ ap length is in omega arith

one_page : (next : Front) (o : Option Decision) (text : Bytes) → IsFrontAt next (front_of bad) → IsFrontOfReply next o text → length text ≤ 200
unfolding pp_law_on_literals
one_page NoHeadYet o text at front = absurd at
one_page (IsRequest r) o text at front = absurd (cc at)
one_page (NoFront other) o text at (before left is) = front_is_short text left [] 200 is (omega arith)
one_page (NoFront other) o text at (within d was closes head body left is rest (is_page status is_decided spelled none ends)) =
    front_is_short text left (head ++ body) 200 is (subst (λ l. length (head ++ l) ≤ 200) (sym none) (subst (λ l. length (l ++ []) ≤ 200) (sym spelled) (front_is_short (page status false false ++ []) [] _ 200 refl (longer status))))
  where
    longer : (s : ℕ) → length ((page s false false ++ []) ++ []) ≤ 200
    longer s = let one = short_page s in let two = length-append (page s false false) [] in let three = length-append (page s false false ++ []) [] in omega arith
one_page (NoFront other) o text at (within d was closes head body left is rest (is_kept r front by k short long ends)) = absurd (cc front)
one_page (NoFront other) o text at (within d was closes head body left is rest (is_passed r front is_on p ends)) = absurd (cc front)

two_are_longer : (text : Bytes) → refusal ++ refusal ≡ text → length text ≤ 200 → ⊥
unfolding pp_law_on_literals
two_are_longer text is le = let both : 218 ≡ length text = ap length is in omega arith

-- not even the same again, whatever was decided
never_twice : (decided : ℕ → Option Decision) → SaysInOrder bad (refusal ++ refusal) decided → ⊥
never_twice decided w = by w.last w.next (subst (λ ts. refusal ++ refusal ≡ concat ts ++ w.last) none.1 w.all) w.front (subst (λ fs. (w.last ≡ []) ⊎ AreHeard bad (fs ++ w.next ∷ [])) none.0 w.next_heard)
  where
    none : (w.requests ≡ []) × (w.replies ≡ [])
    none = no_whole decided w.requests w.replies w.are_heard w.each

    by : (last : Bytes) (next : Front) → refusal ++ refusal ≡ last → IsFrontOfReply next (decided (length w.requests)) last → (last ≡ []) ⊎ AreHeard bad (next ∷ []) → ⊥
    by last next is front (inl nothing) = two_are_longer last is (subst (λ l. length l ≤ 200) (sym nothing) (omega arith))
    by last next is front (inr there) = two_are_longer last is (one_page next (decided (length w.requests)) last there.0 front)

-- what was decided to be passed is not read from the cache
never_kept : (whole closes : Bool) (head body : Bytes) → IsReply (front_of request) Pass whole closes head body → (p : Parsed) × IsPassedHead p head
never_kept whole closes head body (is_page status is_decided spelled none ends) = absurd (cc is_decided)
never_kept whole closes head body (is_kept r front by k short long ends) = absurd (cc by)
never_kept whole closes head body (is_passed r front is_on p ends) = (r, p)
