-- How the reply to a client's current request stands: what of it was said, and what is left to say.
use Rattle.std.proofs.Common.{◌≡◌, ◌⊎◌, refl, ℕ, suc, ◌+◌, ◌-◌, ◌<◌, ◌≤◌, Bool, true, false, ◌==◌, ◌&&◌, not, if◌then◌else◌, List, [], ◌++◌, map, length, Option, Some, inl, inr, sym, subst, ap, ◌∙◌, append_assoc, lt_of_lt_of_le, arith, ◌∷◌, drop}
use Rattle.std.proofs.lemmas.Bool.Decides.{nat_tests}
use Rattle.std.specs.List.{concat}
use Rattle.pp_law.specs.Connections.{is_client}
use Rattle.pp_law.specs.Deciding.{span_of}
use Rattle.pp_law.specs.Lists.{Bytes, change}
use Rattle.pp_law.specs.Requests.{Front, Parsed, NoHeadYet, IsRequest, has_request, keeps_open, keeps_after, asks_head}
use Rattle.pp_law.specs.Stages.{is_passing}
use Rattle.pp_law.specs.State.{State, Client, Undecided, Waiting, Passing, Answering, Reply, Instance}
use Rattle.pp_reply.specs.Keeping.{is_end_known}
use Rattle.pp_reply.specs.Texts.{page}
use Rattle.pp_valid.specs.declared.version.Version.{Version}
use Rattle.pp_world.specs.declared.happening.Happening.TheVariants.{Noted}
use Rattle.pp_world.specs.declared.note.Decision.{Decision}
use Rattle.pp_world.specs.declared.note.Decision.TheVariants.{Refuse, Hit, Part, Head, NotModified, Unsatisfiable, Relay, Validate, Fetch, Pass}
use Rattle.pp_world.specs.declared.note.Remark.TheVariants.{Taken}
use Rattle.pp_laws.specs.Numbers.{AreRising}
use Rattle.pp_laws.specs.Runs.{IsIn}
use Rattle.pp_laws.proofs.Lists.{Changed, in_change, other, rise_change, same}
use Rattle.pp_laws.proofs.Sound.{client_number}
use Rattle.pp_laws.proofs.Tests.{number_same, same_number}
use Rattle.pp_laws_replies.specs.ByRow.{is_by_row}
use Rattle.pp_laws_replies.specs.Replies.{interim_to, taken_in, IsKeptHead, IsPassedHead, IsReply, is_page, is_kept, is_passed, IsWholeReply, IsFrontOfReply, before, within, AreHeard, AreReplies, AreRepliesFrom, SaysInOrder}
use Rattle.pp_laws_replies.specs.Shown.{ShowsVersion}
use Rattle.pp_laws_replies.proofs.ByRowLemmas.{SpanOf}
use Rattle.pp_laws_replies.proofs.HeardPlaces.{PlaceIn, Reads, before_it, read, still, with_current}
use Rattle.pp_laws_replies.proofs.Quiet.{FactsOf, FromRow, Quiet, Quietly, facts_of, old_row, new_row}

-- ---- definitions

-- a reply that was decided and has not begun: it is passed, or read from an instance of this version, and these bytes of it
pub data Chosen (instances : List Instance) (next_instance : ℕ) (f : Front) (closes : Bool) (r : Reply) : Type 0 where
  to_pass : is_passing r.decision ≡ true → Chosen instances next_instance f closes r
  to_show : (q : Parsed) → f ≡ IsRequest q → closes ≡ not (keeps_open q) → is_by_row r.decision ≡ true → (v : Version) → SpanOf q.head v r.decision → r.at ≡ (span_of r.decision).0 → r.to ≡ (span_of r.decision).1
      → (id : ℕ) → r.source ≡ Some id → id < next_instance → ((x : Instance) → IsIn x instances → x.id ≡ id → x.version ≡ v) → Chosen instances next_instance f closes r

-- one that has begun, with this head, and this front of its body; and whether it closes
pub data Begun (instances : List Instance) (next_instance : ℕ) (f : Front) (closes : Bool) (r : Reply) (head body : Bytes) : Type 0 where
  a_page : (status : ℕ) → r.decision ≡ Refuse status → r.to ≡ 0 → head ≡ page status (asks_head f) (keeps_after status f) → body ≡ [] → closes ≡ not (keeps_after status f) → Begun instances next_instance f closes r head body
  a_kept : (q : Parsed) → f ≡ IsRequest q → is_by_row r.decision ≡ true → ShowsVersion instances q r head body → ((id : ℕ) → r.source ≡ Some id → id < next_instance) → closes ≡ not (keeps_open q) → Begun instances next_instance f closes r head body
  a_passed : (q : Parsed) → f ≡ IsRequest q → is_passing r.decision ≡ true → (p : IsPassedHead q head) → closes ≡ not (keeps_open q && is_end_known p.rule q.head.minor) → Begun instances next_instance f closes r head body

-- the reply to the current request, of which this was decided last, and this was said last
pub data Now (instances : List Instance) (next_instance : ℕ) (decided : Option Decision) (c : Client) (last : Bytes) : Type 0 where
  undecided : c.stage ≡ Undecided → c.interim_left ≡ [] → last ≡ [] → Now instances next_instance decided c last
  waiting : (c.stage ≡ Waiting) ⊎ ((c.stage ≡ Passing) × (decided ≡ Some Pass)) → has_request c.front ≡ true → last ++ c.interim_left ≡ interim_to c.front → Now instances next_instance decided c last
  chosen : (r : Reply) → c.stage ≡ Answering r → r.has_begun ≡ false → decided ≡ Some r.decision → has_request c.front ≡ true → last ++ c.interim_left ≡ interim_to c.front → Chosen instances next_instance c.front c.closes r
      → Now instances next_instance decided c last
  begun : (r : Reply) → c.stage ≡ Answering r → r.has_begun ≡ true → decided ≡ Some r.decision → has_request c.front ≡ true → (head body : Bytes) → (last ++ c.interim_left) ++ r.head_left ≡ (interim_to c.front ++ head) ++ body
      → (body ≡ []) ⊎ ((c.interim_left ≡ []) × (r.head_left ≡ [])) → Begun instances next_instance c.front c.closes r head body → Now instances next_instance decided c last

-- what was heard of a client, what was said to it, and what was decided last for each of its requests
pub record Told : Type 0 where
  pub heard : Bytes
  pub said : Bytes
  pub decided : ℕ → Option Decision

-- all that a client was told
pub record Story (instances : List Instance) (next_instance : ℕ) (told : Told) (c : Client) : Type 0 where
  pub requests : List Front
  pub count : length requests ≡ c.index
  pub replies : List Bytes
  pub each : AreReplies told.decided requests replies
  pub last : Bytes
  pub all : told.said ≡ concat replies ++ last
  pub place : PlaceIn told.heard requests c.front c
  pub now : Now instances next_instance (told.decided c.index) c last

-- of the client with this number; and what was told to it, also where it is gone
pub record Facts (n : ℕ) (told : Told) (clients : List Client) (instances : List Instance) (next_instance top : ℕ) : Type 0 where
  pub rise : AreRising (map client_number clients)
  pub given : (c : Client) → IsIn c clients → c.number ≤ top
  pub present : (c : Client) → IsIn c clients → c.number ≡ n → Story instances next_instance told c
  pub absent : top < n → (told.heard ≡ []) × (told.said ≡ [])
  pub sofar : SaysInOrder told.heard told.said told.decided

abbrev pub OrderOf : ℕ → Told → State → Type 0
OrderOf n told s = Facts n told s.clients s.instances s.next_instance s.top

pub data Orderly (n : ℕ) (told : Told) (s : State) : Type 0 where
  orderly : OrderOf n told s → Orderly n told s

pub order_of : {n : ℕ} {told : Told} {s : State} → Orderly n told s → OrderOf n told s
order_of (orderly facts) = facts

-- ---- what was told is in order

-- its head
abbrev pub kept_head : {instances : List Instance} {q : Parsed} {r : Reply} {head body : Bytes} → ShowsVersion instances q r head body → IsKeptHead q r.decision head
kept_head k = record { kind = k.kind; total = k.version.length; is_decided = k.is_decided; fields = k.fields; age = k.age; name = k.name; spelled = k.spelled }

-- what is read from the cache is not passed
pub not_passing : (d : Decision) → is_by_row d ≡ true → is_passing d ≡ false
not_passing (Refuse status) by = absurd (cc by)
not_passing (Hit from to) by = refl
not_passing (Part from to) by = refl
not_passing Head by = refl
not_passing NotModified by = refl
not_passing Unsatisfiable by = refl
not_passing Relay by = absurd (cc by)
not_passing Validate by = absurd (cc by)
not_passing Fetch by = absurd (cc by)
not_passing Pass by = absurd (cc by)

within_len : (a b m : ℕ) → a + b ≡ m → a ≤ m
within_len a b m is = omega arith

reply_of : {instances : List Instance} {next_instance : ℕ} (f : Front) (closes : Bool) (r : Reply) (head body : Bytes) → Begun instances next_instance f closes r head body → IsReply f r.decision false closes head body
reply_of f closes r head body (a_page status is_decided to is none end) = is_page status is_decided is none end
reply_of f closes r head body (a_kept q front by k given end) =
    is_kept q front by (kept_head k) (within_len (length body) (r.to - r.at) _ k.still_to_say) (λ whole. absurd (cc whole)) end
reply_of f closes r head body (a_passed q front is_on head_is end) = is_passed q front is_on head_is end

none_left : (il hl body : Bytes) → (body ≡ []) ⊎ ((il ≡ []) × (hl ≡ [])) → (body ≡ []) ⊎ (il ++ hl ≡ [])
none_left il hl body (inl none) = inl none
none_left il hl body (inr both) = inr (ap (λ l. l ++ hl) both.0 ∙ both.1)

pub in_order : {instances : List Instance} {next_instance : ℕ} (told : Told) (c : Client) → Story instances next_instance told c → SaysInOrder told.heard told.said told.decided
in_order {instances} {next_instance} told c story = by story.now
  where
    are_heard : AreHeard told.heard story.requests
    are_heard = before_it told.heard story.requests c.front story.place.current

    -- with the current one
    all_heard : has_request c.front ≡ true → AreHeard told.heard (story.requests ++ c.front ∷ [])
    all_heard has = with_current told.heard story.requests c.front has story.place.current

    of : (next : Front) → IsFrontOfReply next (told.decided c.index) story.last → (story.last ≡ []) ⊎ AreHeard told.heard (story.requests ++ next ∷ []) → SaysInOrder told.heard told.said told.decided
    of next front heard =
        record {
          requests = story.requests;
          are_heard = are_heard;
          replies = story.replies;
          each = story.each;
          next = next;
          last = story.last;
          front = subst (λ i. IsFrontOfReply next (told.decided i) story.last) (sym story.count) front;
          next_heard = heard;
          all = story.all;
        }

    by : Now instances next_instance (told.decided c.index) c story.last → SaysInOrder told.heard told.said told.decided
    by (undecided stage none last) = of NoHeadYet (before [] (ap (λ l. l ++ []) last)) (inl last)
    by (waiting stage has is) = of c.front (before c.interim_left is) (inr (all_heard has))
    by (chosen r stage isnt_on taken has is what) = of c.front (before c.interim_left is) (inr (all_heard has))
    by (begun r stage is_on taken has head body is rest what) =
        of c.front (within r.decision taken c.closes head body (c.interim_left ++ r.head_left) (sym (append_assoc story.last c.interim_left r.head_left) ∙ is) (none_left c.interim_left r.head_left body rest) (reply_of c.front c.closes r head body what))
        (inr (all_heard has))

-- ---- what keeps a story

-- the same request, stage and interim answer, and the reply closes as it did
pub record Alike (d c : Client) : Type 0 where
  pub front : d.front ≡ c.front
  pub stage : d.stage ≡ c.stage
  pub interim : d.interim_left ≡ c.interim_left
  pub closes : d.closes ≡ c.closes

-- instances that keep their versions, and new ones have new numbers
pub record SameRows (rows : List Instance) (next : ℕ) (instances : List Instance) (next_instance : ℕ) : Type 0 where
  pub from : (x : Instance) → IsIn x instances → FromRow rows next x
  pub next_is : next ≤ next_instance

same_version : (rows : List Instance) (next : ℕ) (x : Instance) (id : ℕ) (v : Version) → id < next → ((y : Instance) → IsIn y rows → y.id ≡ id → y.version ≡ v) → x.id ≡ id → FromRow rows next x → x.version ≡ v
same_version rows next x id v lt versions is (old_row y i alike version) = version ∙ versions y i (sym alike ∙ is)
same_version rows next x id v lt versions is (new_row le) = let eq : x.id ≡ id = is in absurd (omega arith)

chosen_on : (rows : List Instance) (next : ℕ) (instances : List Instance) (next_instance : ℕ) (f : Front) (closes : Bool) (r : Reply) → SameRows rows next instances next_instance → Chosen rows next f closes r → Chosen instances next_instance f closes r
chosen_on rows next instances next_instance f closes r alike (to_pass is) = to_pass is
chosen_on rows next instances next_instance f closes r alike (to_show q front end by v span at to id source lt versions) =
    to_show q front end by v span at to id source (lt_of_lt_of_le lt alike.next_is) (λ x i is. same_version rows next x id v lt versions is (alike.from x i))

begun_on : (rows : List Instance) (next : ℕ) (instances : List Instance) (next_instance : ℕ) (f : Front) (closes : Bool) (r : Reply) (head body : Bytes) → SameRows rows next instances next_instance → Begun rows next f closes r head body
    → Begun instances next_instance f closes r head body
begun_on rows next instances next_instance f closes r head body alike (a_page status is_decided to is none end) = a_page status is_decided to is none end
begun_on rows next instances next_instance f closes r head body alike (a_kept q front by k given end) =
    a_kept q front by (record {
      version = k.version;
      kind = k.kind;
      is_decided = k.is_decided;
      fields = k.fields;
      age = k.age;
      name = k.name;
      spelled = k.spelled;
      place = k.place;
      order = k.order;
      end = k.end;
      within = k.within;
      still_to_say = k.still_to_say;
      source = λ x i is. same_version rows next x x.id k.version (given x.id is) (λ y j id. k.source y j (is ∙ ap (λ (n : ℕ). Some n) (sym id))) refl (alike.from x i);
    }) (λ id is. lt_of_lt_of_le (given id is) alike.next_is) end
begun_on rows next instances next_instance f closes r head body alike (a_passed q front is_on head_is end) = a_passed q front is_on head_is end

stays : (last : Bytes) (d c : Client) → Alike d c → last ++ c.interim_left ≡ interim_to c.front → last ++ d.interim_left ≡ interim_to d.front
stays last d c alike is = ap (λ l. last ++ l) alike.interim ∙ is ∙ sym (ap interim_to alike.front)

pub now_alike : (rows : List Instance) (next : ℕ) (instances : List Instance) (next_instance : ℕ) (d c : Client) (decided : Option Decision) (last : Bytes) → SameRows rows next instances next_instance → Alike d c → Now rows next decided c last
    → Now instances next_instance decided d last
now_alike rows next instances next_instance d c decided last rows_same alike (undecided stage none is) = undecided (alike.stage ∙ stage) (alike.interim ∙ none) is
now_alike rows next instances next_instance d c decided last rows_same alike (waiting (inl stage) has is) = waiting (inl (alike.stage ∙ stage)) (ap has_request alike.front ∙ has) (stays last d c alike is)
now_alike rows next instances next_instance d c decided last rows_same alike (waiting (inr stage) has is) = waiting (inr (alike.stage ∙ stage.0, stage.1)) (ap has_request alike.front ∙ has) (stays last d c alike is)
now_alike rows next instances next_instance d c decided last rows_same alike (chosen r stage isnt_on taken has is what) =
    chosen r (alike.stage ∙ stage) isnt_on taken (ap has_request alike.front ∙ has) (stays last d c alike is) (subst (λ f. Chosen instances next_instance f d.closes r) (sym alike.front) (subst (λ t. Chosen instances next_instance c.front t r) (sym alike.closes) (chosen_on rows next instances next_instance c.front c.closes r rows_same what)))
now_alike rows next instances next_instance d c decided last rows_same alike (begun r stage is_on taken has head body is rest what) =
    begun r (alike.stage ∙ stage) is_on taken (ap has_request alike.front ∙ has) head body
    (ap (λ l. (last ++ l) ++ r.head_left) alike.interim ∙ is ∙ sym (ap (λ f. (interim_to f ++ head) ++ body) alike.front))
    (left rest) (subst (λ f. Begun instances next_instance f d.closes r head body) (sym alike.front) (subst (λ t. Begun instances next_instance c.front t r head body) (sym alike.closes) (begun_on rows next instances next_instance c.front c.closes r head body rows_same what)))
  where
    left : (body ≡ []) ⊎ ((c.interim_left ≡ []) × (r.head_left ≡ [])) → (body ≡ []) ⊎ ((d.interim_left ≡ []) × (r.head_left ≡ []))
    left (inl none) = inl none
    left (inr both) = inr (alike.interim ∙ both.0, both.1)

-- it is the same request, and as much of what it sent is left as is said here
pub record Follows (d c : Client) : Type 0 where
  pub index : d.index ≡ c.index
  pub front : d.front ≡ c.front
  pub reads : Reads d c

pub still_follows : (d c : Client) → d.index ≡ c.index → d.front ≡ c.front → d.heard ≡ c.heard → d.body_left ≡ c.body_left → d.skip ≡ c.skip → Follows d c
still_follows d c index front heard left skip = record { index = index; front = front; reads = still d c heard left skip }

pub read_follows : (d c : Client) (k : ℕ) → d.index ≡ c.index → d.front ≡ c.front → k ≤ c.body_left → d.heard ≡ drop k c.heard → d.body_left ≡ c.body_left - k → d.skip ≡ c.skip + (k - length c.heard) → Follows d c
read_follows d c k index front taken heard left skip = record { index = index; front = front; reads = read d c k taken heard left skip }

pub place_on : (heard : Bytes) (requests : List Front) (d c : Client) → Follows d c → PlaceIn heard requests c.front c → PlaceIn heard requests d.front d
place_on heard requests d c follows p = subst (λ f. PlaceIn heard requests f d) (sym follows.front) (follows.reads heard requests c.front p)

pub story_on : (rows : List Instance) (next : ℕ) (instances : List Instance) (next_instance : ℕ) (told : Told) (d c : Client) → Follows d c → ((decided : Option Decision) (last : Bytes) → Now rows next decided c last → Now instances next_instance decided d last)
    → Story rows next told c → Story instances next_instance told d
story_on rows next instances next_instance told d c follows by story = record {
  requests = story.requests;
  count = story.count ∙ sym follows.index;
  replies = story.replies;
  each = story.each;
  last = story.last;
  all = story.all;
  place = place_on told.heard story.requests d c follows story.place;
  now = subst (λ i. Now instances next_instance (told.decided i) d story.last) (sym follows.index) (by (told.decided c.index) story.last story.now);
}

alike_quiet : (d c : Client) → Quiet d c → Alike d c
alike_quiet d c q = record { front = q.front; stage = q.stage; interim = q.interim; closes = q.closes }

pub quiet_orderly : {n : ℕ} {told : Told} (o s : State) → Quietly o s → Orderly n told o → Orderly n told s
quiet_orderly {n} {told} o s quiet h = orderly (record {
  rise = subst AreRising (sym q.numbers) f.rise;
  given = λ d i. let c = q.clients_from d i in let le : c.was.number ≤ o.top = f.given c.was c.there in let eq : d.number ≡ c.was.number = c.is.number in let more : o.top ≤ s.top = q.top in omega arith;
  present = λ d i is. let c = q.clients_from d i in
      story_on o.instances o.next_instance s.instances s.next_instance told d c.was (record { index = c.is.index; front = c.is.front; reads = c.is.reads })
      (λ decided last. now_alike o.instances o.next_instance s.instances s.next_instance d c.was decided last (record { from = q.rows_from; next_is = q.next }) (alike_quiet d c.was c.is))
      (f.present c.was c.there (sym c.is.number ∙ is));
  absent = λ lt. let more : o.top ≤ s.top = q.top in f.absent (omega arith);
  sofar = f.sofar;
})
  where
    f : OrderOf n told o
    f = order_of h

    q : FactsOf o s
    q = facts_of quiet

-- those of which the test holds are changed, and perhaps more was told
pub changed_orderly : {n : ℕ} {told : Told} (more : Told) (s : State) (p : Client → Bool) (f : Client → Client) → ((c : Client) → (f c).number ≡ c.number)
    → ((c : Client) → IsIn c s.clients → p c ≡ true → c.number ≡ n → Story s.instances s.next_instance told c → Story s.instances s.next_instance more (f c))
    → ((c : Client) → IsIn c s.clients → p c ≡ false → c.number ≡ n → Story s.instances s.next_instance told c → Story s.instances s.next_instance more c)
    → (s.top < n → (more.heard ≡ []) × (more.said ≡ [])) → SaysInOrder more.heard more.said more.decided → Orderly n told s → Orderly n more (record s { clients = change p f s.clients })
changed_orderly {n} {told} more s p f number hits rest absent sofar h = orderly (record {
  rise = rise_change client_number p f number s.clients o.rise;
  given = λ d i. given_by d (in_change p f d s.clients i);
  present = λ d i is. present_by d (in_change p f d s.clients i) is;
  absent = absent;
  sofar = sofar;
})
  where
    o : OrderOf n told s
    o = order_of h

    given_by : (d : Client) → Changed p f s.clients d → d.number ≤ s.top
    given_by d (same i isnt) = o.given d i
    given_by d (other c i hit eq) = subst (λ m. m ≤ s.top) (sym (ap client_number eq ∙ number c)) (o.given c i)

    present_by : (d : Client) → Changed p f s.clients d → d.number ≡ n → Story s.instances s.next_instance more d
    present_by d (same i isnt) is = rest d i isnt is (o.present d i is)
    present_by d (other c i hit eq) is =
        let its : c.number ≡ n = sym (ap client_number eq ∙ number c) ∙ is in
        subst (λ (x : Client). Story s.instances s.next_instance more x) (sym eq) (hits c i hit its (o.present c i its))

-- and nothing more was told
pub kept_orderly : {n : ℕ} {told : Told} (s : State) (p : Client → Bool) (f : Client → Client) → ((c : Client) → (f c).number ≡ c.number)
    → ((c : Client) → Follows (f c) c) → ((c : Client) → IsIn c s.clients → p c ≡ true → (decided : Option Decision) (last : Bytes) → Now s.instances s.next_instance decided c last → Now s.instances s.next_instance decided (f c) last)
    → Orderly n told s → Orderly n told (record s { clients = change p f s.clients })
kept_orderly {n} {told} s p f number follows kept h =
    changed_orderly told s p f number (λ c i hit is story. story_on s.instances s.next_instance s.instances s.next_instance told (f c) c (follows c) (kept c i hit) story) (λ c i isnt is story. story) (order_of h).absent (order_of h).sofar h

-- ---- what is decided for request i of client m

-- it is the last that is told of it
abbrev pub decides_too : ℕ → ℕ → ℕ → Decision → Told → Told
decides_too n m i d told = record told { decided = λ j. taken_in n j (Noted (Taken m i d)) (told.decided j) }

-- nothing is told of those before it
others_decided : (decided : ℕ → Option Decision) (i : ℕ) (d : Decision) (k : ℕ) (fs : List Front) (texts : List Bytes) → k + length fs ≤ i → AreRepliesFrom decided k fs texts
    → AreRepliesFrom (λ j. if true && (i == j) then Some d else decided j) k fs texts
others_decided decided i d k [] [] le each = tt
others_decided decided i d k [] (text ∷ texts) le each = absurd each
others_decided decided i d k (f ∷ fs) [] le each = absurd each
others_decided decided i d k (f ∷ fs) (text ∷ texts) le each =
    let all : k + suc (length fs) ≤ i = le in
    (subst (λ t. IsWholeReply f (if true && t then Some d else decided k) text) (sym (is_other i k (omega arith))) each.0, others_decided decided i d (k + 1) fs texts (omega arith) each.1)
  where
    is_other : (a b : ℕ) → b < a → (a == b) ≡ false
    is_other a b lt = grind (arith, nat_tests)

decided_now : (decided : ℕ → Option Decision) (i : ℕ) (d : Decision) → (if true && (i == i) then Some d else decided i) ≡ Some d
decided_now decided i d = ap (λ t. if true && t then Some d else decided i) (number_same i)

all_before : (a b : ℕ) → a ≡ b → 0 + a ≤ b
all_before a b is = omega arith

story_decided : (instances : List Instance) (next_instance : ℕ) (told : Told) (i : ℕ) (d : Decision) (e c : Client) → c.index ≡ i → Follows e c
    → ((decided : Option Decision) (last : Bytes) → Now instances next_instance decided c last → Now instances next_instance (Some d) e last) → Story instances next_instance told c
    → Story instances next_instance (record told { decided = λ j. if true && (i == j) then Some d else told.decided j }) e
story_decided instances next_instance told i d e c index follows by story = record {
  requests = story.requests;
  count = story.count ∙ sym follows.index;
  replies = story.replies;
  each = others_decided told.decided i d 0 story.requests story.replies (all_before (length story.requests) i (story.count ∙ index)) story.each;
  last = story.last;
  all = story.all;
  place = place_on told.heard story.requests e c follows story.place;
  now = subst (λ o. Now instances next_instance o e story.last) (sym (ap (λ k. if true && (i == k) then Some d else told.decided k) (follows.index ∙ index) ∙ decided_now told.decided i d)) (by (told.decided c.index) story.last story.now);
}

pub decides_orderly : {n : ℕ} {told : Told} (m i : ℕ) (d : Decision) (s : State) (f : Client → Client) → ((c : Client) → (f c).number ≡ c.number) → ((c : Client) → Follows (f c) c) → (x : Client) → IsIn x s.clients → x.number ≡ m
    → ((c : Client) → IsIn c s.clients → c.number ≡ m → c.index ≡ i)
    → ((c : Client) → IsIn c s.clients → c.number ≡ m → (decided : Option Decision) (last : Bytes) → Now s.instances s.next_instance decided c last → Now s.instances s.next_instance (Some d) (f c) last)
    → Orderly n told s → Orderly n (decides_too n m i d told) (record s { clients = change (is_client m) f s.clients })
decides_orderly {n} {told} m i d s f number follows x its is_m index by h = at (m == n) refl
  where
    at : (t : Bool) → (m == n) ≡ t → Orderly n (record told { decided = λ j. if t && (i == j) then Some d else told.decided j }) (record s { clients = change (is_client m) f s.clients })
    at false isnt =
        changed_orderly told s (is_client m) f number
        (λ c there hit is story.
        let both : true ≡ false = sym (number_same n) ∙ ap (λ k. k == n) (sym is ∙ same_number c.number m hit) ∙ isnt in
        absurd (cc both))
        (λ c there off is story. story) (order_of h).absent (order_of h).sofar h
    at true is_n =
        let more : Told = record told { decided = λ j. if true && (i == j) then Some d else told.decided j } in
        let story_of : (c : Client) → IsIn c s.clients → c.number ≡ m → Story s.instances s.next_instance told c → Story s.instances s.next_instance more (f c)
        = λ c there number. story_decided s.instances s.next_instance told i d (f c) c (index c there number) (follows c) (by c there number) in
        changed_orderly more s (is_client m) f number
        (λ c there hit is story. story_of c there (same_number c.number m hit) story)
        (λ c there off is story.
        let both : true ≡ false = sym (number_same m) ∙ ap (λ k. k == m) (same_number m n is_n ∙ sym is) ∙ off in
        absurd (cc both))
        (order_of h).absent
        (in_order more (f x) (story_of x its is_m ((order_of h).present x its (is_m ∙ same_number m n is_n))))
        h
