-- Where a client stands in what it sent: behind the requests that were answered, and the head of the current one.
use Rattle.std.proofs.Common.{◌≡◌, ◌⊎◌, refl, ℕ, ◌+◌, ◌-◌, ◌≤◌, Bool, true, false, List, [], ◌∷◌, ◌++◌, length, drop, Result, Ok, Err, inl, inr, sym, subst, ap, ap₂, ◌∙◌, length-append, length-drop, le_refl, arith}
use Rattle.std.proofs.lemmas.List.{drop-drop}
use Rattle.pp_framing.specs.declared.body.BodyRule.{BodyRule}
use Rattle.pp_framing.specs.declared.framing.FramingFault.{FramingFault}
use Rattle.pp_law.specs.Hearing.{what_counts, fronted, heard_by}
use Rattle.pp_law.specs.Lists.{Bytes}
use Rattle.pp_law.specs.Replies.{next_request}
use Rattle.pp_law.specs.Requests.{Front, Parsed, NoHeadYet, NoHead as NoFront, IsRequest, front_of, behind_head, body_len_by, body_len, has_request}
use Rattle.pp_law.specs.State.{Client}
use Rattle.pp_laws_replies.specs.Replies.{AreHeard, IsFrontAt, next_at}
use Rattle.pp_laws_replies.proofs.HeardLemmas.{drop_both, drop_none, drop_past, ends_at, ends_push, front_within, head_within, heard_first, heard_longer, heard_next}

-- the end of its body is not known
abbrev pub ends_nowhere : Front → Bool
ends_nowhere NoHeadYet = false
ends_nowhere (NoFront status) = false
ends_nowhere (IsRequest r) = elim r.rule [ Ok rule ↦ false | Err fault ↦ true ]

-- none is current, or it was heard behind the others
abbrev pub Current : Bytes → List Front → Front → Type 0
Current heard requests f = ((f ≡ NoHeadYet) × AreHeard heard requests) ⊎ AreHeard heard (requests ++ f ∷ [])

-- what is left of what was heard is all from there on; what is left of the body of the current one ends where the next one begins
pub record PlaceOf (heard : Bytes) (requests : List Front) (f : Front) (rest : Bytes) (left skip : ℕ) : Type 0 where
  pub at : ℕ
  pub rest_is : rest ≡ drop at heard
  pub skip_is : skip ≡ at - length heard
  pub current : Current heard requests f
  pub end_is : ends_nowhere f ≡ false → at + left ≡ ends_at 0 (requests ++ f ∷ [])
  pub none : f ≡ NoHeadYet → left ≡ 0
  pub nowhere : ends_nowhere f ≡ true → (rest ≡ []) × (skip ≡ 0) × (left ≡ 0)

abbrev pub PlaceIn : Bytes → List Front → Front → Client → Type 0
PlaceIn heard requests f c = PlaceOf heard requests f c.heard c.body_left c.skip

pub longer : (heard more : Bytes) (requests : List Front) (f : Front) → Current heard requests f → Current (heard ++ more) requests f
longer heard more requests f (inl w) = inl (w.0, heard_longer heard more 0 requests w.1)
longer heard more requests f (inr w) = inr (heard_longer heard more 0 (requests ++ f ∷ []) w)

-- ---- some of it is taken or dropped

pub place_read : (heard : Bytes) (requests : List Front) (f : Front) (rest next : Bytes) (left more skip passed k : ℕ) → k ≤ left → next ≡ drop k rest → more ≡ left - k → passed ≡ skip + (k - length rest)
    → PlaceOf heard requests f rest left skip → PlaceOf heard requests f next more passed
place_read heard requests f rest next left more skip passed k taken next_is less passed_is p = record {
  at = p.at + k;
  rest_is = next_is ∙ ap (drop k) p.rest_is ∙ drop-drop k p.at heard;
  skip_is = passed_is ∙ sum p.at k (length heard) skip (length rest) p.skip_is (ap length p.rest_is ∙ length-drop p.at heard);
  current = p.current;
  end_is = λ is. both_sides p.at k left more taken less ∙ p.end_is is;
  none = λ is. zero_left more left less (p.none is);
  nowhere = λ is. let q = p.nowhere is in
      (next_is ∙ ap (drop k) q.0 ∙ drop_none k, passed_is ∙ zero_sum skip k (length rest) left q.1 taken q.2, zero_left more left less q.2);
}
  where
    sum : (a j l cs ch : ℕ) → cs ≡ a - l → ch ≡ l - a → cs + (j - ch) ≡ (a + j) - l
    sum a j l cs ch e1 e2 = omega arith

    both_sides : (a j m n : ℕ) → j ≤ m → n ≡ m - j → (a + j) + n ≡ a + m
    both_sides a j m n le e = omega arith

    zero_sum : (a j l m : ℕ) → a ≡ 0 → j ≤ m → m ≡ 0 → a + (j - l) ≡ 0
    zero_sum a j l m e le z = omega arith

    zero_left : (a b : ℕ) → a ≡ b - k → b ≡ 0 → a ≡ 0
    zero_left a b e z = omega arith

-- wherever a client stood, it stands so now
abbrev pub Reads : Client → Client → Type 0
Reads d c = (heard : Bytes) (requests : List Front) (f : Front) → PlaceIn heard requests f c → PlaceIn heard requests f d

pub still : (d c : Client) → d.heard ≡ c.heard → d.body_left ≡ c.body_left → d.skip ≡ c.skip → Reads d c
still d c rest left skip heard requests f p = record {
  at = p.at;
  rest_is = rest ∙ p.rest_is;
  skip_is = skip ∙ p.skip_is;
  current = p.current;
  end_is = λ is. ap (λ m. p.at + m) left ∙ p.end_is is;
  none = λ is. left ∙ p.none is;
  nowhere = λ is. let q = p.nowhere is in (rest ∙ q.0, skip ∙ q.1, left ∙ q.2);
}

pub read : (d c : Client) (k : ℕ) → k ≤ c.body_left → d.heard ≡ drop k c.heard → d.body_left ≡ c.body_left - k → d.skip ≡ c.skip + (k - length c.heard) → Reads d c
read d c k taken rest left skip heard requests f p = place_read heard requests f c.heard d.heard c.body_left d.body_left c.skip d.skip k taken rest left skip p

pub again : (e d c : Client) → Reads e d → Reads d c → Reads e c
again e d c one two heard requests f p = one heard requests f (two heard requests f p)

-- all of a body
pub none_left : (n : ℕ) → 0 ≡ n - n
none_left n = omega arith

-- ---- more is heard

counts_by : (f : Front) (bytes : Bytes) → (ends_nowhere f ≡ false → what_counts f bytes ≡ bytes) × (ends_nowhere f ≡ true → what_counts f bytes ≡ [])
counts_by NoHeadYet bytes = (λ is. refl, λ is. absurd (cc is))
counts_by (NoFront status) bytes = (λ is. refl, λ is. absurd (cc is))
counts_by (IsRequest r) bytes = by r.rule
  where
    by : (rule : Result BodyRule FramingFault) → let t : Bool = elim rule as (λ x. Bool) [ Ok found ↦ false | Err fault ↦ true ] in let counted : Bytes = elim rule as (λ x. Bytes) [ Ok found ↦ bytes | Err fault ↦ [] ] in
        (t ≡ false → counted ≡ bytes) × (t ≡ true → counted ≡ [])
    by (Ok found) = (λ is. refl, λ is. absurd (cc is))
    by (Err fault) = (λ is. absurd (cc is), λ is. refl)

pub place_longer : (heard : Bytes) (requests : List Front) (f : Front) (rest bytes : Bytes) (left skip : ℕ) → PlaceOf heard requests f rest left skip
    → PlaceOf (heard ++ bytes) requests f (rest ++ what_counts f (drop skip bytes)) left (skip - length bytes)
place_longer heard requests f rest bytes left skip p = by (ends_nowhere f) refl
  where
    less : (a l b s m : ℕ) → s ≡ a - l → m ≡ l + b → s - b ≡ a - m
    less a l b s m e1 e2 = omega arith

    none_skipped : (s b m : ℕ) → s ≡ 0 → s - b ≡ m - m
    none_skipped s b m e = omega arith

    by : (t : Bool) → ends_nowhere f ≡ t → PlaceOf (heard ++ bytes) requests f (rest ++ what_counts f (drop skip bytes)) left (skip - length bytes)
    by false is = record {
      at = p.at;
      rest_is = ap₂ (λ l m. l ++ m) p.rest_is ((counts_by f (drop skip bytes)).0 is ∙ ap (λ j. drop j bytes) p.skip_is) ∙ drop_both p.at heard bytes;
      skip_is = less p.at (length heard) (length bytes) skip (length (heard ++ bytes)) p.skip_is (length-append heard bytes);
      current = longer heard bytes requests f p.current;
      end_is = p.end_is;
      none = p.none;
      nowhere = λ on. let both : false ≡ true = sym is ∙ on in absurd (cc both);
    }
    by true is =
        let q = p.nowhere is in
        let nothing : rest ++ what_counts f (drop skip bytes) ≡ [] = ap₂ (λ l m. l ++ m) q.0 ((counts_by f (drop skip bytes)).1 is) in
        record {
          at = length (heard ++ bytes);
          rest_is = nothing ∙ sym (drop_past (length (heard ++ bytes)) (heard ++ bytes) (le_refl (length (heard ++ bytes))));
          skip_is = none_skipped skip (length bytes) (length (heard ++ bytes)) q.1;
          current = longer heard bytes requests f p.current;
          end_is = λ off. let both : true ≡ false = sym is ∙ off in absurd (cc both);
          none = p.none;
          nowhere = λ on. (nothing, none_more q.1, q.2);
        }
      where
        none_more : skip ≡ 0 → skip - length bytes ≡ 0
        none_more e = less_none skip (length bytes) e
          where
            less_none : (s b : ℕ) → s ≡ 0 → s - b ≡ 0
            less_none s b e0 = omega arith

-- ---- the next request is read

-- those before it
pub before_it : (heard : Bytes) (requests : List Front) (f : Front) → Current heard requests f → AreHeard heard requests
before_it heard requests f (inl w) = w.1
before_it heard requests f (inr w) = heard_first heard 0 requests (f ∷ []) w

pub place_fronted : (heard : Bytes) (requests : List Front) (rest : Bytes) (left skip : ℕ) → PlaceOf heard requests NoHeadYet rest left skip
    → PlaceOf heard requests (front_of rest) (what_counts (front_of rest) (behind_head (front_of rest) rest)) (body_len (front_of rest)) skip
place_fronted heard requests rest left skip p = by (front_of rest) refl
  where
    there : AreHeard heard requests
    there = before_it heard requests NoHeadYet p.current

    -- it begins where the last of them ends
    begins : p.at ≡ ends_at 0 requests
    begins = no_more p.at left (ends_at 0 (requests ++ NoHeadYet ∷ [])) (ends_at 0 requests) (p.end_is refl) (p.none refl) (ends_push 0 requests NoHeadYet)
      where
        no_more : (a m e n : ℕ) → a + m ≡ e → m ≡ 0 → e ≡ (n + 0) + 0 → a ≡ n
        no_more a m e n e1 e2 e3 = omega arith

    ends : (f : Front) (len more : ℕ) → next_at (ends_at 0 requests) f ≡ (ends_at 0 requests + len) + more → (p.at + len) + more ≡ ends_at 0 (requests ++ f ∷ [])
    ends f len more is = ap (λ a. (a + len) + more) begins ∙ sym is ∙ sym (ends_push 0 requests f)

    found : (f : Front) → front_of rest ≡ f → front_of (drop p.at heard) ≡ f
    found f is = ap front_of (sym p.rest_is) ∙ is

    with_it : (f : Front) → IsFrontAt f (front_of (drop p.at heard)) → AreHeard heard (requests ++ f ∷ [])
    with_it f is = heard_next heard 0 requests f there (subst (λ a. IsFrontAt f (front_of (drop a heard))) begins is)

    of_request : (r : Parsed) → front_of rest ≡ IsRequest r → p.at + r.head.length ≤ length heard
    of_request r is = sum p.at r.head.length (length heard) (length rest) (head_within rest r is) (ap length p.rest_is ∙ length-drop p.at heard) (front_within (IsRequest r) p.at heard (found (IsRequest r) is))
      where
        sum : (a h l n : ℕ) → h ≤ n → n ≡ l - a → a ≤ l → a + h ≤ l
        sum a h l n e1 e2 e3 = omega arith

    nothing_skipped : (a h l s : ℕ) → s ≡ a - l → a + h ≤ l → s ≡ (a + h) - l
    nothing_skipped a h l s e le = omega arith

    none_at_end : (a h l s : ℕ) → s ≡ a - l → a + h ≤ l → s ≡ l - l
    none_at_end a h l s e le = omega arith

    none_skipped : (a h l s : ℕ) → s ≡ a - l → a + h ≤ l → s ≡ 0
    none_skipped a h l s e le = omega arith

    no_length : (a : ℕ) → a + 0 ≡ (a + 0) + 0
    no_length a = omega arith

    by_rule : (r : Parsed) (rule : Result BodyRule FramingFault) → front_of rest ≡ IsRequest r → r.rule ≡ rule
        → PlaceOf heard requests (IsRequest r) (elim rule as (λ x. Bytes) [ Ok one ↦ drop r.head.length rest | Err fault ↦ [] ]) (body_len_by rule) skip
    by_rule r (Ok one) is eq = record {
      at = p.at + r.head.length;
      rest_is = ap (drop r.head.length) p.rest_is ∙ drop-drop r.head.length p.at heard;
      skip_is = nothing_skipped p.at r.head.length (length heard) skip p.skip_is (of_request r is);
      current = inr (with_it (IsRequest r) (found (IsRequest r) is));
      end_is = λ off. ends (IsRequest r) r.head.length (body_len_by (Ok one)) (ap (λ x. (ends_at 0 requests + r.head.length) + body_len_by x) eq);
      none = λ none. absurd (cc none);
      nowhere = λ on. let off : ends_nowhere (IsRequest r) ≡ false = ap (λ (x : Result BodyRule FramingFault). elim x as (λ y. Bool) [ Ok two ↦ false | Err fault ↦ true ]) eq in let both : false ≡ true = sym off ∙ on in absurd (cc both);
    }
    by_rule r (Err fault) is eq = record {
      at = length heard;
      rest_is = sym (drop_past (length heard) heard (le_refl (length heard)));
      skip_is = none_at_end p.at r.head.length (length heard) skip p.skip_is (of_request r is);
      current = inr (with_it (IsRequest r) (found (IsRequest r) is));
      end_is = λ off. let on : ends_nowhere (IsRequest r) ≡ true = ap (λ (x : Result BodyRule FramingFault). elim x as (λ y. Bool) [ Ok two ↦ false | Err other ↦ true ]) eq in let both : true ≡ false = sym on ∙ off in absurd (cc both);
      none = λ none. absurd (cc none);
      nowhere = λ on. (refl, none_skipped p.at r.head.length (length heard) skip p.skip_is (of_request r is), refl);
    }

    by : (f : Front) → front_of rest ≡ f → PlaceOf heard requests f (what_counts f (behind_head f rest)) (body_len f) skip
    by NoHeadYet is = record {
      at = p.at;
      rest_is = p.rest_is;
      skip_is = p.skip_is;
      current = inl (refl, there);
      end_is = λ off. no_length p.at ∙ ends NoHeadYet 0 0 refl;
      none = λ none. refl;
      nowhere = λ on. absurd (cc on);
    }
    by (NoFront status) is = record {
      at = p.at;
      rest_is = p.rest_is;
      skip_is = p.skip_is;
      current = inr (with_it (NoFront status) (status, found (NoFront status) is));
      end_is = λ off. no_length p.at ∙ ends (NoFront status) 0 0 refl;
      none = λ none. absurd (cc none);
      nowhere = λ on. absurd (cc on);
    }
    by (IsRequest r) is = by_rule r r.rule is refl

-- ---- a client

with_front_by : (heard : Bytes) (requests : List Front) (c : Client) (front : Front) → c.front ≡ front → PlaceIn heard requests c.front c
    → let d : Client = elim front as (λ x. Client) [ NoHeadYet ↦ fronted c | NoFront status ↦ c | IsRequest r ↦ c ] in PlaceIn heard requests d.front d
with_front_by heard requests c NoHeadYet is p = place_fronted heard requests c.heard c.body_left c.skip (subst (λ f. PlaceIn heard requests f c) is p)
with_front_by heard requests c (NoFront status) is p = p
with_front_by heard requests c (IsRequest r) is p = p

pub place_heard : (heard : Bytes) (requests : List Front) (bytes : Bytes) (c : Client) → PlaceIn heard requests c.front c → PlaceIn (heard ++ bytes) requests (heard_by bytes c).front (heard_by bytes c)
place_heard heard requests bytes c p =
    with_front_by (heard ++ bytes) requests (record c { heard = c.heard ++ what_counts c.front (drop c.skip bytes); skip = c.skip - length bytes }) c.front refl (place_longer heard requests c.front c.heard bytes c.body_left c.skip p)

-- the current one is among them
pub with_current : (heard : Bytes) (requests : List Front) (f : Front) → has_request f ≡ true → Current heard requests f → AreHeard heard (requests ++ f ∷ [])
with_current heard requests f has (inl w) = let both : false ≡ true = sym (ap has_request w.0) ∙ has in absurd (cc both)
with_current heard requests f has (inr w) = w

-- where the current one has an end
pub place_next : (heard : Bytes) (requests : List Front) (c : Client) → has_request c.front ≡ true → ends_nowhere c.front ≡ false → PlaceIn heard requests c.front c
    → PlaceIn heard (requests ++ c.front ∷ []) (next_request c).front (next_request c)
place_next heard requests c has ends p =
    let q = place_read heard requests c.front c.heard (drop c.body_left c.heard) c.body_left 0 c.skip (c.skip + (c.body_left - length c.heard)) c.body_left (le_refl c.body_left) refl (none_left c.body_left) refl p in
    place_fronted heard (requests ++ c.front ∷ []) (drop c.body_left c.heard) 0 (c.skip + (c.body_left - length c.heard))
    (record {
      at = q.at;
      rest_is = q.rest_is;
      skip_is = q.skip_is;
      current = inl (refl, with_current heard requests c.front has q.current);
      end_is = λ off. no_length q.at (ends_at 0 (requests ++ c.front ∷ [])) (ends_at 0 ((requests ++ c.front ∷ []) ++ NoHeadYet ∷ [])) (q.end_is ends) (ends_push 0 (requests ++ c.front ∷ []) NoHeadYet);
      none = λ none. refl;
      nowhere = λ on. absurd (cc on);
    })
  where
    no_length : (a n e : ℕ) → a + 0 ≡ n → e ≡ (n + 0) + 0 → a + 0 ≡ e
    no_length a n e e1 e2 = omega arith
