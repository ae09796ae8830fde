-- What is kept of a head is what the law reads in it.
use Rattle.std.proofs.Common.{◌≡◌, ◌⊎◌, inl, inr, refl, sym, subst, ap, ◌∙◌, ℕ, Bool, true, false, not, ◌&&◌, ◌||◌, nat_lt, is_ok, bytes_eq, codes, List, [], ◌∷◌, ◌++◌, Option, Some, None, Result, Ok, Err}
use Rattle.std.specs.Prelude.{⊤}
use Rattle.pp_client.specs.Requests.{Front as Heading, Nothing, Begun, Asked as IsAsked, Refused, current_of, fault_of, front_in as heading_in, front_of as heading_of}
use Rattle.pp_framing.specs.Framing.{request_rule_of}
use Rattle.pp_framing.specs.declared.body.BodyRule.{BodyRule}
use Rattle.pp_framing.specs.declared.body.BodyRule.TheVariants.{Empty, Length, Chunked, ToEnd}
use Rattle.pp_framing.specs.declared.framing.FramingFault.{FramingFault}
use Rattle.pp_framing.specs.declared.framing.FramingFault.TheVariants.{TwoLengths, BadLength, OtherCoding}
use Rattle.pp_head.proofs.OnLiterals.{pp_head_on_literals}
use Rattle.pp_head.specs.Read.{Read, Whole, TooLong, Bad, More}
use Rattle.pp_head.specs.Request.{Request, request_at}
use Rattle.pp_plan.specs.Requests.{is_get, is_head}
use Rattle.pp_reply.specs.Keeping.{wants_interim}
use Rattle.pp_reply.specs.Texts.{is_last}
use Rattle.pp_text.specs.Fields.{Field}
use Rattle.pp_target.specs.Key.{Key, key_at, key_in}
use Rattle.pp_target.specs.declared.target.TargetFault.{TargetFault}
use Rattle.pp_law.specs.Lists.{Bytes}
use Rattle.pp_law.specs.Requests.{Front, Parsed, NoHeadYet, NoHead, IsRequest, body_len_by, expects_interim, front_in, front_of, key_in as key_of, parsed_of, refusal_by_rule}
use Rattle.pp_seats.specs.declared.front.Asked.{Asked}
use Rattle.pp_seats.specs.declared.front.Front.{Front as SeatFront}
use Rattle.pp_seats.specs.declared.front.Front.TheVariants.{NoHeadYet as NoneYet, NoHead as NoneThere, Request as IsThere}
use Rattle.pp_seats.specs.declared.key.Key.{Key as OwnedKey}
use Rattle.pp_seats_law.specs.Fronts.{ShowsAsked, ShowsFront, ShowsKey}
use Rattle.pp_seats.specs.Heads.{IsFrontOf, IsKeyed, asked_by, length_in, may_wait, waits_by}
use Rattle.pp_seats_law.specs.Heads.{FrontsAreReadAsTheLaws, FrontsAreTheLaws}

-- ---- the head

same_fault : (rule : Result BodyRule FramingFault) → fault_of rule ≡ refusal_by_rule rule
same_fault (Ok rule) = refl
same_fault (Err OtherCoding) = refl
same_fault (Err TwoLengths) = refl
same_fault (Err BadLength) = refl

abbrev refusal_with : Result Key TargetFault → Option ℕ → Option ℕ
refusal_with key other = elim key [ Err fault ↦ Some 400 | Ok k ↦ other ]

shows_key : (key : Option OwnedKey) (refusal framing : Option ℕ) (head : Request) → framing ≡ fault_of (request_rule_of head.fields) → IsKeyed key refusal head.target framing → ShowsKey key refusal (parsed_of head)
shows_key (Some key) refusal framing head of is =
    (is.0, is.1 ∙ of ∙ same_fault (request_rule_of head.fields) ∙ sym (ap (λ (k : Result Key TargetFault). refusal_with k (refusal_by_rule (request_rule_of head.fields))) is.0))
shows_key None refusal framing head of (inl bad) = inl (ap (λ (k : Result Key TargetFault). is_ok k) bad.1, bad.2)
shows_key None refusal framing head of (inr refused) = inr refused

same_length : (rule : Result BodyRule FramingFault) → length_in rule ≡ body_len_by rule
same_length (Ok Empty) = refl
same_length (Ok (Length n)) = refl
same_length (Ok Chunked) = refl
same_length (Ok ToEnd) = refl
same_length (Err fault) = refl

either_way : (a b c : Bool) → ((a || b) || c) ≡ (a || (b || c))
either_way true b c = refl
either_way false b c = refl

-- what the law expects, by the framing and by the target
abbrev expects_framed : ℕ → List Field → Result BodyRule FramingFault → Option ℕ → Bool
expects_framed minor fields rule refusal = elim refusal [ Some status ↦ false | None ↦ elim rule [ Ok r ↦ wants_interim minor r fields | Err fault ↦ false ] ]

abbrev expects_keyed : Request → Result Key TargetFault → Bool
expects_keyed head key = expects_framed head.minor head.fields (request_rule_of head.fields) (refusal_with key (refusal_by_rule (request_rule_of head.fields)))

owned_expects : (minor : ℕ) (fields : List Field) (rule : Result BodyRule FramingFault) → (may_wait (refusal_by_rule rule) && waits_by minor fields rule) ≡ expects_framed minor fields rule (refusal_by_rule rule)
owned_expects minor fields (Ok rule) = refl
owned_expects minor fields (Err TwoLengths) = refl
owned_expects minor fields (Err BadLength) = refl
owned_expects minor fields (Err OtherCoding) = refl

refused_expects : (minor : ℕ) (fields : List Field) (rule : Result BodyRule FramingFault) → waits_by minor fields rule ≡ expects_framed minor fields rule (refusal_by_rule rule)
refused_expects minor fields (Ok rule) = refl
refused_expects minor fields (Err TwoLengths) = refl
refused_expects minor fields (Err BadLength) = refl
refused_expects minor fields (Err OtherCoding) = refl

-- memory was refused for its key
expects_unowned : (refusal : Option ℕ) (head : Request) (key : Result Key TargetFault) → key_at head.target ≡ key → refusal ≡ Some 500
    → ((is_ok (key_at head.target) ≡ false) × (refusal ≡ Some 500)) ⊎ ((may_wait refusal && waits_by head.minor head.fields (request_rule_of head.fields)) ≡ expects_interim (parsed_of head))
expects_unowned refusal head (Err fault) at refused = inl (ap (λ (k : Result Key TargetFault). is_ok k) at, refused)
expects_unowned refusal head (Ok key) at refused =
    inr (ap (λ (r : Option ℕ). may_wait r && waits_by head.minor head.fields (request_rule_of head.fields)) refused ∙ refused_expects head.minor head.fields (request_rule_of head.fields) ∙ sym (ap (expects_keyed head) at))

-- the interim answer is expected as the law says, unless memory was refused for a target that has no key
expects : (key : Option OwnedKey) (refusal framing : Option ℕ) (head : Request) → framing ≡ fault_of (request_rule_of head.fields) → IsKeyed key refusal head.target framing
    → ((is_ok (key_at head.target) ≡ false) × (refusal ≡ Some 500)) ⊎ ((may_wait refusal && waits_by head.minor head.fields (request_rule_of head.fields)) ≡ expects_interim (parsed_of head))
expects (Some key) refusal framing head of is =
    inr (ap (λ (r : Option ℕ). may_wait r && waits_by head.minor head.fields (request_rule_of head.fields)) (is.1 ∙ of ∙ same_fault (request_rule_of head.fields))
    ∙ owned_expects head.minor head.fields (request_rule_of head.fields) ∙ sym (ap (expects_keyed head) is.0))
expects None refusal framing head of (inl bad) =
    inr (ap (λ (r : Option ℕ). may_wait r && waits_by head.minor head.fields (request_rule_of head.fields)) bad.2 ∙ sym (ap (expects_keyed head) bad.1))
expects None refusal framing head of (inr refused) = expects_unowned refusal head (key_at head.target) refl refused

shows_asked : (key : Option OwnedKey) (refusal framing : Option ℕ) (head : Request) → framing ≡ fault_of (request_rule_of head.fields) → IsKeyed key refusal head.target framing
    → ShowsAsked (asked_by key refusal head) (parsed_of head)
shows_asked key refusal framing head of is = record {
  key = shows_key key refusal framing head of is;
  minor = refl;
  body_len = same_length (request_rule_of head.fields);
  is_head = refl;
  is_safe = sym (either_way (is_get head.method || is_head head.method) (bytes_eq head.method (codes "OPTIONS")) (bytes_eq head.method (codes "TRACE")));
  is_asked_once = ap (λ (n : ℕ). not (is_get head.method || is_head head.method) || nat_lt 0 n) (same_length (request_rule_of head.fields));
  binds_connection = refl;
  keeps_open = refl;
  expects = expects key refusal framing head of is;
}

-- ---- what stands at the front

abbrev pub front_from : Heading → Front
front_from Nothing = NoHeadYet
front_from Begun = NoHeadYet
front_from (IsAsked head fault) = IsRequest (parsed_of head)
front_from (Refused status) = NoHead status

same_front_in : (read : Read Request) → front_in read ≡ front_from (heading_in read)
same_front_in (Whole head) = refl
same_front_in TooLong = refl
same_front_in Bad = refl
same_front_in More = refl

pub same_front : (bytes : Bytes) → front_of bytes ≡ front_from (heading_of bytes)
unfolding front_of pp_head_on_literals
same_front [] = refl
same_front (b ∷ bytes) = same_front_in (request_at (b ∷ bytes))

-- the fault that is told is that of the head's framing
abbrev IsFaultTold : Heading → Type 0
IsFaultTold Nothing = ⊤
IsFaultTold Begun = ⊤
IsFaultTold (IsAsked head fault) = fault ≡ fault_of (request_rule_of head.fields)
IsFaultTold (Refused status) = ⊤

fault_told_in : (read : Read Request) → IsFaultTold (heading_in read)
fault_told_in (Whole head) = refl
fault_told_in TooLong = tt
fault_told_in Bad = tt
fault_told_in More = tt

fault_told : (bytes : Bytes) → IsFaultTold (heading_of bytes)
fault_told [] = tt
fault_told (b ∷ bytes) = fault_told_in (request_at (b ∷ bytes))

front_shown : (front : SeatFront) (heading : Heading) → IsFaultTold heading → IsFrontOf front heading → ShowsFront front (front_from heading)
front_shown NoneYet Nothing told is = tt
front_shown NoneYet Begun told is = tt
front_shown (NoneThere status) (Refused other) told is = is
front_shown (IsThere a) (IsAsked head fault) told is = subst (λ (x : Asked). ShowsAsked x (parsed_of head)) (sym is.1) (shows_asked a.key a.refusal fault head told is.0)
front_shown front heading told is = absurd is

pub fronts : FrontsAreTheLaws
fronts front h is = subst (λ (f : Front). ShowsFront front f) (sym (same_front (h.head ++ h.rest))) (front_shown front (current_of h) (fault_told (h.head ++ h.rest)) is)

-- ---- what is read of it

key_there : (key : OwnedKey) (k : Option OwnedKey) (refusal : Option ℕ) (r : Parsed) → ShowsKey k refusal r → k ≡ Some key → key_of (IsRequest r) ≡ Some (key_in key.text.items key.place)
key_there key k refusal r shows is = by (subst (λ (o : Option OwnedKey). ShowsKey o refusal r) is shows)
  where
    by : ShowsKey (Some key) refusal r → key_of (IsRequest r) ≡ Some (key_in key.text.items key.place)
    by here = ap (λ (o : Result Key TargetFault). elim o as (λ c. Option Key) [ Ok k ↦ Some k | Err fault ↦ None ]) here.0

none_some : {A : Type 0} {x : A} → None ≡ Some x → ⊥
none_some e = absurd (cc e)

pub fronts_read : FrontsAreReadAsTheLaws
fronts_read NoneYet NoHeadYet shows = record { there = refl; head_asked = refl; keeps = λ status. refl; key = λ key is. absurd (none_some is) }
fronts_read (NoneThere status) (NoHead other) shows = record { there = refl; head_asked = refl; keeps = λ n. refl; key = λ key is. absurd (none_some is) }
fronts_read (IsThere a) (IsRequest r) shows = record {
  there = refl;
  head_asked = shows.is_head;
  keeps = λ status. ap (λ (b : Bool). b && not (is_last status)) shows.keeps_open;
  key = λ key is. key_there key a.key a.refusal r shows.key is;
}
fronts_read front f shows = absurd shows
