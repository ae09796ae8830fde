-- What is said goes on with the reply as far as it was said.
use Rattle.std.proofs.Common.{◌≡◌, ◌⊎◌, refl, ℕ, suc, ◌+◌, ◌-◌, ◌≤◌, nat_lt, nat_le, nat_eq, Bool, true, false, ◌&&◌, List, [], ◌∷◌, ◌++◌, length, take, drop, Option, Some, None, inl, inr, sym, subst, ap, ◌∙◌, append_assoc, append-nil, length-append, length-drop, zero-le, le_trans, arith}
use Rattle.std.specs.List.{concat}
use Rattle.std.proofs.lemmas.Bool.Decides.{nat_tests}
use Rattle.std.proofs.Math.Nat.{min-le_left, min-le_right}
use Rattle.std.proofs.lemmas.List.{take-append-drop, length-take}
use Rattle.std.specs.List.{starts_with}
use Rattle.pp_pass.specs.Pipe.{without_first}
use Rattle.pp_text.specs.Bytes.{is_empty}
use Rattle.pp_world.specs.declared.happening.Happening.TheVariants.{Said}
use Rattle.pp_world.specs.declared.note.Decision.{Decision}
use Rattle.pp_law.specs.Asking.{is_writing}
use Rattle.pp_law.specs.Connections.{client}
use Rattle.pp_law.specs.Lists.{Bytes, is_some_with}
use Rattle.pp_law.specs.Offers.{run_at, piece, passed_part, offer}
use Rattle.pp_law.specs.Permits.{is_permitted, IsPermitted, permits, permits_said, is_said_of}
use Rattle.pp_law.specs.Replies.{said_by, said_of, said_of_body}
use Rattle.pp_law.specs.Requests.{Front, has_request}
use Rattle.pp_law.specs.Stages.{is_passing, on_passed, reply_of}
use Rattle.pp_law.specs.State.{State, Client, Stage, Undecided, Waiting, Passing, Answering, Reply, Instance}
use Rattle.pp_law.specs.Table.{source_of, Next, next_from, next_of}
use Rattle.pp_laws.proofs.Tests.{fourth_holds, same_bytes, second_holds}
use Rattle.pp_laws_replies.specs.Replies.{interim_to}
use Rattle.pp_laws_replies.specs.Shown.{span_shown}
use Rattle.pp_laws_replies.proofs.QuietAsks.{on_passed-quiet}
use Rattle.pp_laws_replies.proofs.Stories.{Follows, Told, place_on, still_follows, Begun, a_page, a_kept, a_passed, not_passing, Chosen, Now, undecided, waiting, chosen, begun, Story}

-- ---- a step: bytes are said

-- nothing; of the interim answer; of the head; of a body that is passed; or of one that is read from an instance
pub data Step (c d : Client) (bytes : Bytes) : Type 0 where
  of_nothing : d.front ≡ c.front → d.stage ≡ c.stage → d.interim_left ≡ c.interim_left → bytes ≡ [] → Step c d bytes
  of_interim : d.front ≡ c.front → d.stage ≡ c.stage → bytes ++ d.interim_left ≡ c.interim_left → ¬ (c.interim_left ≡ []) → Step c d bytes
  of_head : (r : Reply) (left : Bytes) → d.front ≡ c.front → c.stage ≡ Answering r → r.has_begun ≡ true → d.stage ≡ Answering (record r { head_left = left }) → c.interim_left ≡ [] → d.interim_left ≡ [] → bytes ++ left ≡ r.head_left
      → ¬ (r.head_left ≡ []) → Step c d bytes
  of_passed : (r : Reply) → d.front ≡ c.front → c.stage ≡ Answering r → r.has_begun ≡ true → d.stage ≡ c.stage → c.interim_left ≡ [] → d.interim_left ≡ [] → r.head_left ≡ [] → is_passing r.decision ≡ true → Step c d bytes
  of_body : (r : Reply) → d.front ≡ c.front → c.stage ≡ Answering r → r.has_begun ≡ true → d.stage ≡ Answering (record r { at = r.at + length bytes }) → c.interim_left ≡ [] → d.interim_left ≡ [] → r.head_left ≡ [] → is_passing r.decision ≡ false
      → length bytes ≤ r.to - r.at → Step c d bytes

-- or the last of the head, and behind it of the body
pub data Steps (c d : Client) (bytes : Bytes) : Type 0 where
  of_one : Step c d bytes → Steps c d bytes
  of_both : (e : Client) (head body : Bytes) → e.closes ≡ c.closes → Step c e head → Step e d body → bytes ≡ head ++ body → Steps c d bytes

-- what is said of some bytes, and what is left of them
and_left : (bytes left : Bytes) → bytes ≡ take (length bytes) left → bytes ++ drop (length bytes) left ≡ left
and_left bytes left is = ap (λ l. l ++ drop (length bytes) left) is ∙ take-append-drop (length bytes) left

-- what is offered of a body is no longer than what is left of it
short_piece : (s : State) (r : Reply) (o : Option Next) → ((n : Next) → o ≡ Some n → (n.at ≡ r.at) × (n.to ≡ r.to)) → length (elim o as (λ x. Bytes) [ None ↦ [] | Some n ↦ piece s n ]) ≤ r.to - r.at
short_piece s r None is = zero-le
short_piece s r (Some n) is =
    let e = is n refl in
    let run = run_at 16 n.source.id n.at s.chunks in
    subst (λ m. m ≤ r.to - r.at) (sym (length-take (n.to - n.at) run)) (le_trans (min-le_left (n.to - n.at) (length run)) (same_len n.at n.to r.at r.to e.0 e.1))
  where
    same_len : (a b x y : ℕ) → a ≡ x → b ≡ y → b - a ≤ y - x
    same_len a b x y e1 e2 = omega arith

next_is : (s : State) (r : Reply) (closing : Bool) (source : Option Instance) (n : Next)
    → (elim closing as (λ c. Option Next) [ true ↦ None | false ↦ elim source as (λ c. Option Next) [ None ↦ None | Some x ↦ next_from x r ] ]) ≡ Some n → (n.at ≡ r.at) × (n.to ≡ r.to)
next_is s r true source n is = absurd (cc is)
next_is s r false None n is = absurd (cc is)
next_is s r false (Some x) n is = by (nat_lt r.at r.to) is
  where
    by : (t : Bool) → (elim t as (λ c. Option Next) [ true ↦ Some (record { source = x; at = r.at; to = r.to }) | false ↦ None ]) ≡ Some n → (n.at ≡ r.at) × (n.to ≡ r.to)
    by true has =
        let eq : record { source = x; at = r.at; to = r.to } ≡ n = cc in
        (sym (ap (λ (m : Next). m.at) eq), sym (ap (λ (m : Next). m.to) eq))
    by false has = absurd (cc has)

-- a client at these parts
abbrev at_body : Client → Reply → Client
at_body c r = record c { interim_left = []; stage = Answering (record r { has_begun = true; head_left = [] }) }

body_step : (s : State) (c : Client) (r : Reply) (bytes : Bytes) (t : Bool) → is_passing r.decision ≡ t
    → bytes ≡ take (length bytes) (elim t as (λ x. Bytes) [ true ↦ passed_part (at_body c r) | false ↦ elim (next_of s (at_body c r)) as (λ x. Bytes) [ None ↦ [] | Some n ↦ piece s n ] ])
    → Step (at_body c r) (elim t as (λ x. Client) [
      | true ↦ on_passed (λ p. record p { pipe = without_first (length bytes) p.pipe }) (at_body c r)
      | false ↦ record (at_body c r) { stage = Answering (record r { has_begun = true; head_left = []; at = r.at + length bytes }) }
    ]) bytes
body_step s c r bytes true passing is =
    let q = on_passed-quiet (λ p. record p { pipe = without_first (length bytes) p.pipe }) (at_body c r) in
    of_passed (record r { has_begun = true; head_left = [] }) q.front refl refl q.stage refl q.interim refl passing
body_step s c r bytes false passing is = of_body (record r { has_begun = true; head_left = [] }) refl refl refl refl refl refl refl passing short
  where
    offered : Bytes
    offered = elim (next_of s (at_body c r)) as (λ x. Bytes) [ None ↦ [] | Some n ↦ piece s n ]

    bounded : length offered ≤ r.to - r.at
    bounded = short_piece s r (next_of s (at_body c r)) (λ n has. next_is s r c.is_closing (source_of s r) n has)

    front : (xs ys : Bytes) → xs ≡ take (length xs) ys → length xs ≤ length ys
    front xs ys eq = subst (λ m. m ≤ length ys) (sym (ap length eq ∙ length-take (length xs) ys)) (min-le_right (length xs) (length ys))

    short : length bytes ≤ r.to - r.at
    short = le_trans (front bytes offered is) bounded

-- of what there is of two texts, no more than the first
of_first : (first second bytes : Bytes) → bytes ≡ take (length bytes) (first ++ second) → length bytes ≤ length first → bytes ≡ take (length bytes) first
of_first first second [] is le = refl
of_first [] second (b ∷ bytes) is le = let long : suc (length bytes) ≤ 0 = le in absurd (omega arith)
of_first (h ∷ first) second (b ∷ bytes) is le =
    let parts : b ∷ bytes ≡ h ∷ take (length bytes) (first ++ second) = is in
    let same : b ≡ h = cc in
    let rest : bytes ≡ take (length bytes) (first ++ second) = cc in
    let less : suc (length bytes) ≤ suc (length first) = le in
    ap (λ x. x ∷ bytes) same ∙ ap (λ l. h ∷ l) (of_first first second bytes rest (omega arith))

-- all of the first, and of the second
of_second : (first second bytes : Bytes) → bytes ≡ take (length bytes) (first ++ second) → length first ≤ length bytes
    → (bytes ≡ first ++ drop (length first) bytes) × (drop (length first) bytes ≡ take (length (drop (length first) bytes)) second)
of_second [] second bytes is le = (refl, is)
of_second (h ∷ first) second [] is le = let long : suc (length first) ≤ 0 = le in absurd (omega arith)
of_second (h ∷ first) second (b ∷ bytes) is le =
    let parts : b ∷ bytes ≡ h ∷ take (length bytes) (first ++ second) = is in
    let same : b ≡ h = cc in
    let rest : bytes ≡ take (length bytes) (first ++ second) = cc in
    let less : suc (length first) ≤ suc (length bytes) = le in
    let both = of_second first second bytes rest (omega arith) in
    (ap (λ x. x ∷ bytes) same ∙ ap (λ l. h ∷ l) both.0, both.1)

-- a client that is being said this head
at_head : Client → Reply → Bytes → Client
at_head c r head = record c { interim_left = []; stage = Answering (record r { has_begun = true; head_left = head }) }

-- what is offered behind the head
behind_head : State → Client → Reply → Bytes
behind_head s c r = elim (is_passing r.decision) [ true ↦ passed_part (at_body c r) | false ↦ elim (next_of s (at_body c r)) [ None ↦ [] | Some n ↦ piece s n ] ]

within_head : (c : Client) (r : Reply) (head bytes : Bytes) → bytes ≡ take (length bytes) head → Step (at_head c r head) (at_head c r (drop (length bytes) head)) bytes
unfolding at_head
within_head c r [] [] is = of_nothing refl refl refl refl
within_head c r [] (b ∷ bytes) is = absurd (cc is)
within_head c r (h ∷ head) bytes is =
    of_head (record r { has_begun = true; head_left = h ∷ head }) (drop (length bytes) (h ∷ head)) refl refl refl refl refl refl (and_left bytes (h ∷ head) is) (λ none. cc none)

-- where so many bytes of the body were said
body_taken : ℕ → Client → Reply → Client
body_taken n c r = elim (is_passing r.decision) [
  | true ↦ on_passed (λ p. record p { pipe = without_first n p.pipe }) (at_body c r)
  | false ↦ record (at_body c r) { stage = Answering (record r { has_begun = true; head_left = []; at = r.at + n }) }
]

past_head : (s : State) (c : Client) (r : Reply) (head body bytes : Bytes) → bytes ≡ head ++ body → body ≡ take (length body) (behind_head s c r) → Steps (at_head c r head) (body_taken (length body) c r) bytes
unfolding at_head behind_head body_taken
past_head s c r [] body bytes both is = subst (λ l. Steps (at_body c r) (body_taken (length body) c r) l) (sym both) (of_one (body_step s c r body (is_passing r.decision) refl is))
past_head s c r (h ∷ head) body bytes both is =
    of_both (at_body c r) (h ∷ head) body refl
    (of_head (record r { has_begun = true; head_left = h ∷ head }) [] refl refl refl refl refl refl (append-nil (h ∷ head)) (λ none. cc none))
    (body_step s c r body (is_passing r.decision) refl is) both

head_step : (s : State) (c : Client) (r : Reply) (head bytes : Bytes) → bytes ≡ take (length bytes) (head ++ behind_head s c r) → (t : Bool) → nat_le (length bytes) (length head) ≡ t
    → Steps (at_head c r head) (elim t as (λ x. Client) [ true ↦ at_head c r (drop (length bytes) head) | false ↦ body_taken (length bytes - length head) c r ]) bytes
head_step s c r head bytes is true le = of_one (within_head c r head bytes (of_first head (behind_head s c r) bytes is (grind (arith, nat_tests))))
head_step s c r head bytes is false le =
    let more : length head ≤ length bytes = grind (arith, nat_tests) in
    let both = of_second head (behind_head s c r) bytes is more in
    subst (λ n. Steps (at_head c r head) (body_taken n c r) bytes) (length-drop (length head) bytes) (past_head s c r head (drop (length head) bytes) bytes both.0 both.1)

reply_step : (s : State) (c : Client) (r : Reply) (b : Bool) (head bytes : Bytes) → let e : Client = record c { interim_left = []; stage = Answering (record r { has_begun = b; head_left = head }) } in
    bytes ≡ take (length bytes) (offer s e) → ¬ (offer s e ≡ []) → Steps e (said_by (length bytes) e) bytes
unfolding at_head behind_head body_taken
reply_step s c r false head bytes is some = absurd (some refl)
reply_step s c r true head bytes is some = head_step s c r head bytes is (nat_le (length bytes) (length head)) refl

stage_step : (s : State) (c : Client) (stage : Stage) (bytes : Bytes) → let e : Client = record c { interim_left = []; stage = stage } in
    bytes ≡ take (length bytes) (offer s e) → ¬ (offer s e ≡ []) → Steps e (said_by (length bytes) e) bytes
stage_step s c Undecided bytes is some = absurd (some refl)
stage_step s c Waiting bytes is some = absurd (some refl)
stage_step s c Passing bytes is some = absurd (some refl)
stage_step s c (Answering r) bytes is some = reply_step s c r r.has_begun r.head_left bytes is some

interim_step : (s : State) (c : Client) (interim bytes : Bytes) → let e : Client = record c { interim_left = interim } in
    bytes ≡ take (length bytes) (offer s e) → ¬ (offer s e ≡ []) → Steps e (said_by (length bytes) e) bytes
interim_step s c (i ∷ interim) bytes is some = of_one (of_interim refl refl (and_left bytes (i ∷ interim) is) (λ none. cc none))
interim_step s c [] bytes is some = stage_step s c c.stage bytes is some

pub steps : (s : State) (c : Client) (bytes : Bytes) → bytes ≡ take (length bytes) (offer s c) → ¬ (offer s c ≡ []) → Steps c (said_by (length bytes) c) bytes
steps s c bytes is some = interim_step s c c.interim_left bytes is some

-- ---- the reply goes on

grown : (last bytes il left : Bytes) → bytes ++ left ≡ il → (last ++ bytes) ++ left ≡ last ++ il
grown last bytes il left is = append_assoc last bytes left ∙ ap (λ l. last ++ l) is

same_reply : (c : Client) (r q : Reply) → c.stage ≡ Answering r → c.stage ≡ Answering q → r ≡ q
same_reply c r q one two = let both : Answering r ≡ Answering q = sym one ∙ two in cc

head_moved : {instances : List Instance} {next_instance : ℕ} (f : Front) (closes : Bool) (r : Reply) (left head body : Bytes) → Begun instances next_instance f closes r head body → Begun instances next_instance f closes (record r { head_left = left }) head body
head_moved f closes r left head body (a_page status is_decided to is none end) = a_page status is_decided to is none end
head_moved f closes r left head body (a_kept q front by k given end) =
    a_kept q front by (record {
      version = k.version;
      kind = k.kind;
      is_decided = k.is_decided;
      fields = k.fields;
      age = k.age;
      name = k.name;
      spelled = k.spelled;
      place = k.place;
      order = k.order;
      end = k.end;
      within = k.within;
      still_to_say = k.still_to_say;
      source = k.source;
    }) given end
head_moved f closes r left head body (a_passed q front is_on is end) = a_passed q front is_on is end

passed_more : {instances : List Instance} {next_instance : ℕ} (f : Front) (closes : Bool) (r : Reply) (head body bytes : Bytes) → is_passing r.decision ≡ true → Begun instances next_instance f closes r head body
    → Begun instances next_instance f closes r head (body ++ bytes)
passed_more f closes r head body bytes is_on (a_page status is_decided to is none end) = let both : false ≡ true = sym (ap is_passing is_decided) ∙ is_on in absurd (cc both)
passed_more f closes r head body bytes is_on (a_kept q front by k given end) = let both : false ≡ true = sym (not_passing r.decision by) ∙ is_on in absurd (cc both)
passed_more f closes r head body bytes is_on (a_passed q front too is end) = a_passed q front too is end

no_bytes : (bytes : Bytes) (n : ℕ) → length bytes ≤ 0 - n → bytes ≡ []
no_bytes [] n le = refl
no_bytes (b ∷ bytes) n le = let long : suc (length bytes) ≤ 0 - n = le in absurd (omega arith)

body_more : {instances : List Instance} {next_instance : ℕ} (f : Front) (closes : Bool) (r : Reply) (head body bytes : Bytes) → is_passing r.decision ≡ false → length bytes ≤ r.to - r.at → Begun instances next_instance f closes r head body
    → Begun instances next_instance f closes (record r { at = r.at + length bytes }) head (body ++ bytes)
body_more f closes r head body bytes isnt_on le (a_page status is_decided to is none end) =
    a_page status is_decided to is (ap (λ l. l ++ bytes) none ∙ no_bytes bytes r.at (subst (λ n. length bytes ≤ n - r.at) to le)) end
body_more f closes r head body bytes isnt_on le (a_kept q front by k given end) =
    a_kept q front by (record {
      version = k.version;
      kind = k.kind;
      is_decided = k.is_decided;
      fields = k.fields;
      age = k.age;
      name = k.name;
      spelled = k.spelled;
      place = further (span_shown k.kind k.version.length).0 (length body) (length bytes) (length (body ++ bytes)) r.at k.place (length-append body bytes);
      order = no_further (length bytes) r.at r.to k.order le;
      end = k.end;
      within = k.within;
      still_to_say = sym (sum (length body) (length bytes) (length (body ++ bytes)) r.to r.at le (length-append body bytes)) ∙ k.still_to_say;
      source = k.source;
    }) given end
  where
    further : (f a b m at : ℕ) → f + a ≡ at → m ≡ a + b → f + m ≡ at + b
    further f a b m at e1 e2 = omega arith

    no_further : (b at to : ℕ) → at ≤ to → b ≤ to - at → at + b ≤ to
    no_further b at to e1 e2 = omega arith

    sum : (a b m to at : ℕ) → b ≤ to - at → m ≡ a + b → a + (to - at) ≡ m + (to - (at + b))
    sum a b m to at small eq = omega arith
body_more f closes r head body bytes isnt_on le (a_passed q front is_on is end) = let both : false ≡ true = sym isnt_on ∙ is_on in absurd (cc both)

-- both were said
both_said : (last il hl whole bytes jl kl : Bytes) → il ≡ [] → hl ≡ [] → jl ≡ [] → kl ≡ [] → (last ++ il) ++ hl ≡ whole → ((last ++ bytes) ++ jl) ++ kl ≡ whole ++ bytes
both_said last il hl whole bytes jl kl i h j k is =
    ap (λ l. ((last ++ bytes) ++ l) ++ kl) j ∙ ap (λ l. ((last ++ bytes) ++ []) ++ l) k ∙ append-nil ((last ++ bytes) ++ []) ∙ append-nil (last ++ bytes)
    ∙ ap (λ l. l ++ bytes) (sym (append-nil last) ∙ sym (append-nil (last ++ [])) ∙ ap (λ l. (last ++ l) ++ []) (sym i) ∙ ap (λ l. (last ++ il) ++ l) (sym h) ∙ is)

-- of a reply that has begun
pub record InMidst (instances : List Instance) (next_instance : ℕ) (decided : Option Decision) (c : Client) (last : Bytes) (r : Reply) : Type 0 where
  pub is_on : r.has_begun ≡ true
  pub taken : decided ≡ Some r.decision
  pub has : has_request c.front ≡ true
  pub head : Bytes
  pub body : Bytes
  pub is : (last ++ c.interim_left) ++ r.head_left ≡ (interim_to c.front ++ head) ++ body
  pub rest : (body ≡ []) ⊎ ((c.interim_left ≡ []) × (r.head_left ≡ []))
  pub what : Begun instances next_instance c.front c.closes r head body

midst : (instances : List Instance) (next_instance : ℕ) (decided : Option Decision) (c : Client) (last : Bytes) (r : Reply) → c.stage ≡ Answering r → r.has_begun ≡ true → Now instances next_instance decided c last → InMidst instances next_instance decided c last r
midst instances next_instance decided c last r at on (undecided stage none is) = let both : Undecided ≡ Answering r = sym stage ∙ at in absurd (cc both)
midst instances next_instance decided c last r at on (waiting (inl stage) has is) = let both : Waiting ≡ Answering r = sym stage ∙ at in absurd (cc both)
midst instances next_instance decided c last r at on (waiting (inr stage) has is) = let both : Passing ≡ Answering r = sym stage.0 ∙ at in absurd (cc both)
midst instances next_instance decided c last r at on (chosen q stage isnt_on taken has is what) =
    let both : false ≡ true = sym isnt_on ∙ ap (λ (x : Reply). x.has_begun) (same_reply c q r stage at) ∙ on in absurd (cc both)
midst instances next_instance decided c last r at on (begun q stage is_on taken has head body is rest what) =
    subst (λ (x : Reply). InMidst instances next_instance decided c last x) (same_reply c q r stage at) (record { is_on = is_on; taken = taken; has = has; head = head; body = body; is = is; rest = rest; what = what })

at_front : (f g : Front) (head body : Bytes) → g ≡ f → (interim_to f ++ head) ++ body ≡ (interim_to g ++ head) ++ body
at_front f g head body is = sym (ap (λ h. (interim_to h ++ head) ++ body) is)

interim_said : (instances : List Instance) (next_instance : ℕ) (decided : Option Decision) (c d : Client) (last bytes : Bytes) → d.closes ≡ c.closes → d.front ≡ c.front → d.stage ≡ c.stage → bytes ++ d.interim_left ≡ c.interim_left → ¬ (c.interim_left ≡ [])
    → Now instances next_instance decided c last → Now instances next_instance decided d (last ++ bytes)
interim_said instances next_instance decided c d last bytes end front stage left some (undecided at none is) = absurd (some none)
interim_said instances next_instance decided c d last bytes end front stage left some (waiting (inl at) has is) =
    waiting (inl (stage ∙ at)) (ap has_request front ∙ has) (grown last bytes c.interim_left d.interim_left left ∙ is ∙ sym (ap interim_to front))
interim_said instances next_instance decided c d last bytes end front stage left some (waiting (inr at) has is) =
    waiting (inr (stage ∙ at.0, at.1)) (ap has_request front ∙ has) (grown last bytes c.interim_left d.interim_left left ∙ is ∙ sym (ap interim_to front))
interim_said instances next_instance decided c d last bytes end front stage left some (chosen r at isnt_on taken has is what) =
    chosen r (stage ∙ at) isnt_on taken (ap has_request front ∙ has) (grown last bytes c.interim_left d.interim_left left ∙ is ∙ sym (ap interim_to front)) (subst (λ f. Chosen instances next_instance f d.closes r) (sym front) (subst (λ t. Chosen instances next_instance c.front t r) (sym end) what))
interim_said instances next_instance decided c d last bytes end front stage left some (begun r at is_on taken has head body is rest what) =
    begun r (stage ∙ at) is_on taken (ap has_request front ∙ has) head body (ap (λ l. l ++ r.head_left) (grown last bytes c.interim_left d.interim_left left) ∙ is ∙ at_front c.front d.front head body front) (inl (none rest))
    (subst (λ f. Begun instances next_instance f d.closes r head body) (sym front) (subst (λ t. Begun instances next_instance c.front t r head body) (sym end) what))
  where
    none : (body ≡ []) ⊎ ((c.interim_left ≡ []) × (r.head_left ≡ [])) → body ≡ []
    none (inl is_none) = is_none
    none (inr both) = absurd (some both.0)

head_said : (last il hl bytes left jl whole : Bytes) → il ≡ [] → jl ≡ [] → bytes ++ left ≡ hl → (last ++ il) ++ hl ≡ whole → ((last ++ bytes) ++ jl) ++ left ≡ whole
head_said last il hl bytes left jl whole i j eq is =
    ap (λ l. ((last ++ bytes) ++ l) ++ left) j ∙ ap (λ l. l ++ left) (append-nil (last ++ bytes)) ∙ append_assoc last bytes left ∙ ap (λ l. last ++ l) eq
    ∙ ap (λ l. l ++ hl) (sym (append-nil last) ∙ ap (λ l. last ++ l) (sym i)) ∙ is

-- where nothing was said
nothing_said : (instances : List Instance) (next_instance : ℕ) (decided : Option Decision) (c d : Client) (last : Bytes) → d.closes ≡ c.closes → d.front ≡ c.front → d.stage ≡ c.stage → d.interim_left ≡ c.interim_left → Now instances next_instance decided c last → Now instances next_instance decided d last
nothing_said instances next_instance decided c d last end front stage left (undecided at none is) = undecided (stage ∙ at) (left ∙ none) is
nothing_said instances next_instance decided c d last end front stage left (waiting (inl at) has is) =
    waiting (inl (stage ∙ at)) (ap has_request front ∙ has) (ap (λ l. last ++ l) left ∙ is ∙ sym (ap interim_to front))
nothing_said instances next_instance decided c d last end front stage left (waiting (inr at) has is) =
    waiting (inr (stage ∙ at.0, at.1)) (ap has_request front ∙ has) (ap (λ l. last ++ l) left ∙ is ∙ sym (ap interim_to front))
nothing_said instances next_instance decided c d last end front stage left (chosen r at isnt_on taken has is what) =
    chosen r (stage ∙ at) isnt_on taken (ap has_request front ∙ has) (ap (λ l. last ++ l) left ∙ is ∙ sym (ap interim_to front)) (subst (λ f. Chosen instances next_instance f d.closes r) (sym front) (subst (λ t. Chosen instances next_instance c.front t r) (sym end) what))
nothing_said instances next_instance decided c d last end front stage left (begun r at is_on taken has head body is rest what) =
    begun r (stage ∙ at) is_on taken (ap has_request front ∙ has) head body (ap (λ l. (last ++ l) ++ r.head_left) left ∙ is ∙ at_front c.front d.front head body front) (at_end rest)
    (subst (λ f. Begun instances next_instance f d.closes r head body) (sym front) (subst (λ t. Begun instances next_instance c.front t r head body) (sym end) what))
  where
    at_end : (body ≡ []) ⊎ ((c.interim_left ≡ []) × (r.head_left ≡ [])) → (body ≡ []) ⊎ ((d.interim_left ≡ []) × (r.head_left ≡ []))
    at_end (inl none) = inl none
    at_end (inr both) = inr (left ∙ both.0, both.1)

now_said : (instances : List Instance) (next_instance : ℕ) (decided : Option Decision) (c d : Client) (last bytes : Bytes) → d.closes ≡ c.closes → Step c d bytes → Now instances next_instance decided c last → Now instances next_instance decided d (last ++ bytes)
now_said instances next_instance decided c d last bytes end (of_nothing front stage left none) now =
    subst (λ l. Now instances next_instance decided d l) (sym (ap (λ l. last ++ l) none ∙ append-nil last)) (nothing_said instances next_instance decided c d last end front stage left now)
now_said instances next_instance decided c d last bytes end (of_interim front stage left some) now = interim_said instances next_instance decided c d last bytes end front stage left some now
now_said instances next_instance decided c d last bytes end (of_head r left front at on stage il jl eq some) now =
    let m = midst instances next_instance decided c last r at on now in
    begun (record r { head_left = left }) stage on m.taken (ap has_request front ∙ m.has) m.head m.body
    (head_said last c.interim_left r.head_left bytes left d.interim_left _ il jl eq m.is ∙ at_front c.front d.front m.head m.body front) (inl (none m.body m.rest))
    (subst (λ f. Begun instances next_instance f d.closes (record r { head_left = left }) m.head m.body) (sym front) (head_moved c.front d.closes r left m.head m.body (subst (λ t. Begun instances next_instance c.front t r m.head m.body) (sym end) m.what)))
  where
    none : (body : Bytes) → (body ≡ []) ⊎ ((c.interim_left ≡ []) × (r.head_left ≡ [])) → body ≡ []
    none body (inl is_none) = is_none
    none body (inr both) = absurd (some both.1)
now_said instances next_instance decided c d last bytes end (of_passed r front at on stage il jl hl passing) now =
    let m = midst instances next_instance decided c last r at on now in
    begun r (stage ∙ at) on m.taken (ap has_request front ∙ m.has) m.head (m.body ++ bytes)
    (both_said last c.interim_left r.head_left _ bytes d.interim_left r.head_left il hl jl hl m.is ∙ append_assoc (interim_to c.front ++ m.head) m.body bytes ∙ at_front c.front d.front m.head (m.body ++ bytes) front)
    (inr (jl, hl))
    (subst (λ f. Begun instances next_instance f d.closes r m.head (m.body ++ bytes)) (sym front) (passed_more c.front d.closes r m.head m.body bytes passing (subst (λ t. Begun instances next_instance c.front t r m.head m.body) (sym end) m.what)))
now_said instances next_instance decided c d last bytes end (of_body r front at on stage il jl hl isnt_on le) now =
    let m = midst instances next_instance decided c last r at on now in
    begun (record r { at = r.at + length bytes }) stage on m.taken (ap has_request front ∙ m.has) m.head (m.body ++ bytes)
    (both_said last c.interim_left r.head_left _ bytes d.interim_left r.head_left il hl jl hl m.is ∙ append_assoc (interim_to c.front ++ m.head) m.body bytes ∙ at_front c.front d.front m.head (m.body ++ bytes) front)
    (inr (jl, hl))
    (subst (λ f. Begun instances next_instance f d.closes (record r { at = r.at + length bytes }) m.head (m.body ++ bytes)) (sym front) (body_more c.front d.closes r m.head m.body bytes isnt_on le (subst (λ t. Begun instances next_instance c.front t r m.head m.body) (sym end) m.what)))

pub now_are : (instances : List Instance) (next_instance : ℕ) (decided : Option Decision) (c d : Client) (last bytes : Bytes) → d.closes ≡ c.closes → Steps c d bytes → Now instances next_instance decided c last → Now instances next_instance decided d (last ++ bytes)
now_are instances next_instance decided c d last bytes end (of_one step) now = now_said instances next_instance decided c d last bytes end step now
now_are instances next_instance decided c d last bytes end (of_both e head body same one two both) now =
    subst (λ l. Now instances next_instance decided d l) (append_assoc last head body ∙ ap (λ l. last ++ l) (sym both))
    (now_said instances next_instance decided e d (last ++ head) body (end ∙ sym same) two (now_said instances next_instance decided c e last head same one now))

-- nothing is read with it
reply_reads : (n : ℕ) (c : Client) (r : Reply) (passing : Bool)
    → Follows (elim passing as (λ x. Client) [
      | true ↦ on_passed (λ p. record p { pipe = without_first n p.pipe }) (record c { stage = Answering r })
      | false ↦ record c { stage = Answering (record r { at = r.at + n }) }
    ]) c
reply_reads n c r true = let q = on_passed-quiet (λ p. record p { pipe = without_first n p.pipe }) (record c { stage = Answering r }) in record { index = q.index; front = q.front; reads = q.reads }
reply_reads n c r false = still_follows _ c refl refl refl refl refl

head_reads : (n : ℕ) (c : Client) (r : Reply) (of_head : Bool)
    → Follows (elim of_head as (λ x. Client) [
      | true ↦ record c { stage = Answering (record r { head_left = drop n r.head_left }) }
      | false ↦ said_of_body (n - length r.head_left) (record r { head_left = [] }) c
    ]) c
head_reads n c r true = still_follows _ c refl refl refl refl refl
head_reads n c r false = reply_reads (n - length r.head_left) c (record r { head_left = [] }) (is_passing r.decision)

stage_reads : (n : ℕ) (c : Client) (reply : Option Reply) → Follows (elim reply as (λ x. Client) [ None ↦ c | Some r ↦ said_of n r c ]) c
stage_reads n c None = still_follows _ c refl refl refl refl refl
stage_reads n c (Some r) = head_reads n c r (nat_le n (length r.head_left))

said_reads : (n : ℕ) (c : Client) (empty : Bool)
    → Follows (elim empty as (λ x. Client) [ false ↦ record c { interim_left = drop n c.interim_left } | true ↦ elim (reply_of c) as (λ y. Client) [ None ↦ c | Some r ↦ said_of n r c ] ]) c
said_reads n c false = still_follows _ c refl refl refl refl refl
said_reads n c true = stage_reads n c (reply_of c)

said_follows : (n : ℕ) (c : Client) → Follows (said_by n c) c
said_follows n c = said_reads n c (is_empty c.interim_left)

-- and the reply closes as it did
reply_closes : (n : ℕ) (c : Client) (r : Reply) (passing : Bool)
    → (elim passing as (λ x. Client) [
      | true ↦ on_passed (λ p. record p { pipe = without_first n p.pipe }) (record c { stage = Answering r })
      | false ↦ record c { stage = Answering (record r { at = r.at + n }) }
    ]).closes ≡ c.closes
reply_closes n c r true = (on_passed-quiet (λ p. record p { pipe = without_first n p.pipe }) (record c { stage = Answering r })).closes
reply_closes n c r false = refl

head_closes : (n : ℕ) (c : Client) (r : Reply) (of_head : Bool)
    → (elim of_head as (λ x. Client) [
      | true ↦ record c { stage = Answering (record r { head_left = drop n r.head_left }) }
      | false ↦ said_of_body (n - length r.head_left) (record r { head_left = [] }) c
    ]).closes ≡ c.closes
head_closes n c r true = refl
head_closes n c r false = reply_closes (n - length r.head_left) c (record r { head_left = [] }) (is_passing r.decision)

stage_closes : (n : ℕ) (c : Client) (reply : Option Reply) → (elim reply as (λ x. Client) [ None ↦ c | Some r ↦ said_of n r c ]).closes ≡ c.closes
stage_closes n c None = refl
stage_closes n c (Some r) = head_closes n c r (nat_le n (length r.head_left))

said_closes_by : (n : ℕ) (c : Client) (empty : Bool)
    → (elim empty as (λ x. Client) [ false ↦ record c { interim_left = drop n c.interim_left } | true ↦ elim (reply_of c) as (λ y. Client) [ None ↦ c | Some r ↦ said_of n r c ] ]).closes ≡ c.closes
said_closes_by n c false = refl
said_closes_by n c true = stage_closes n c (reply_of c)

said_closes : (n : ℕ) (c : Client) → (said_by n c).closes ≡ c.closes
said_closes n c = said_closes_by n c (is_empty c.interim_left)

pub story_said : {instances : List Instance} {next_instance : ℕ} (told : Told) (c : Client) (bytes : Bytes) → Steps c (said_by (length bytes) c) bytes → Story instances next_instance told c
    → Story instances next_instance (record told { said = told.said ++ bytes }) (said_by (length bytes) c)
story_said {instances} {next_instance} told c bytes step story = record {
  requests = story.requests;
  count = story.count ∙ sym (said_follows (length bytes) c).index;
  replies = story.replies;
  each = story.each;
  last = story.last ++ bytes;
  all = ap (λ l. l ++ bytes) story.all ∙ append_assoc (concat story.replies) story.last bytes;
  place = place_on told.heard story.requests (said_by (length bytes) c) c (said_follows (length bytes) c) story.place;
  now = subst (λ i. Now instances next_instance (told.decided i) (said_by (length bytes) c) (story.last ++ bytes)) (sym (said_follows (length bytes) c).index)
      (now_are instances next_instance (told.decided c.index) c (said_by (length bytes) c) story.last bytes (said_closes (length bytes) c) step story.now);
}

-- ---- what is permitted

permitted_by : (s : State) (m offered : ℕ) (bytes : Bytes) (room : Option ℕ) → (elim room as (λ c. Bool) [ Some who ↦ false | None ↦ permits_said s m offered bytes ]) ≡ true → permits_said s m offered bytes ≡ true
permitted_by s m offered bytes (Some who) is = absurd (cc is)
permitted_by s m offered bytes None is = is

permitted : (s : State) (m offered : ℕ) (bytes : Bytes) → IsPermitted s (Said m offered bytes) → permits_said s m offered bytes ≡ true
unfolding is_permitted permits
permitted s m offered bytes is = permitted_by s m offered bytes s.made_room_for is

said_fits : (s : State) (m offered : ℕ) (bytes : Bytes) (c : Client) → client s m ≡ Some c → IsPermitted s (Said m offered bytes) → is_said_of offered bytes (offer s c) ≡ true
said_fits s m offered bytes c found is =
    subst (λ o. is_some_with (λ x. is_said_of offered bytes (offer s x)) o ≡ true) found
    (second_holds (is_writing s.owed m) (is_some_with (λ x. is_said_of offered bytes (offer s x)) (client s m)) (permitted s m offered bytes is))

pub no_client : (s : State) (m offered : ℕ) (bytes : Bytes) → client s m ≡ None → IsPermitted s (Said m offered bytes) → ⊥
no_client s m offered bytes none is =
    let off : is_some_with (λ x. is_said_of offered bytes (offer s x)) (client s m) ≡ false = ap (is_some_with (λ x. is_said_of offered bytes (offer s x))) none in
    let both : false ≡ true = sym off ∙ second_holds (is_writing s.owed m) (is_some_with (λ x. is_said_of offered bytes (offer s x)) (client s m)) (permitted s m offered bytes is) in
    cc both

-- what is said is a front of what is offered, and something is
pub said_front : (s : State) (m offered : ℕ) (bytes : Bytes) (c : Client) → client s m ≡ Some c → IsPermitted s (Said m offered bytes) → bytes ≡ take (length bytes) (offer s c)
said_front s m offered bytes c found is =
    same_bytes bytes (take (length bytes) (offer s c)) (fourth_holds (nat_le 1 offered) (nat_le (length bytes) offered) (nat_le offered (length (offer s c))) (starts_with nat_eq (offer s c) bytes) (said_fits s m offered bytes c found is))

pub said_some : (s : State) (m offered : ℕ) (bytes : Bytes) (c : Client) → client s m ≡ Some c → IsPermitted s (Said m offered bytes) → ¬ (offer s c ≡ [])
said_some s m offered bytes c found is none =
    let has : is_said_of offered bytes [] ≡ true = subst (λ l. is_said_of offered bytes l ≡ true) none (said_fits s m offered bytes c found is) in
    let one : 1 ≤ offered = at_most 1 offered (first_of_four (nat_le 1 offered) (nat_le (length bytes) offered) (nat_le offered 0) (starts_with nat_eq [] bytes) has) in
    let zero_at_most : offered ≤ 0 = at_most offered 0 (third_of_four (nat_le 1 offered) (nat_le (length bytes) offered) (nat_le offered 0) (starts_with nat_eq [] bytes) has) in
    omega arith
  where
    at_most : (a b : ℕ) → nat_le a b ≡ true → a ≤ b
    at_most a b le = grind (arith, nat_tests)

    first_of_four : (a b d e : Bool) → (a && b && d && e) ≡ true → a ≡ true
    first_of_four true b d e has = refl
    first_of_four false b d e has = absurd (cc has)

    third_of_four : (a b d e : Bool) → (a && b && d && e) ≡ true → d ≡ true
    third_of_four true true true e has = refl
    third_of_four true true false e has = absurd (cc has)
    third_of_four true false d e has = absurd (cc has)
    third_of_four false b d e has = absurd (cc has)
