-- The scan of a request line ends in a target exactly where the bytes do.
use Rattle.std.proofs.Common.{◌≡◌, ℕ, ◌<◌, Bool, true, false, List, [], ◌∷◌, ◌++◌, length, refl, sym, ap, ◌∙◌, subst, arith, fold}
use Rattle.std.specs.Prelude.{◌==◌}
use Rattle.std.proofs.lemmas.Bool.{eqb-true, ne_eqb}
use Rattle.std.proofs.lemmas.List.Elements.{All-nil, All-cons, All-head, All-tail}
use Rattle.std.proofs.lemmas.List.Sums.{fold-append}
use Rattle.httparse.proofs.PieceLemmas.{space_ends_token}
use Rattle.std.proofs.lemmas.Bool.{both_ways}
use Rattle.httparse.specs.Grammar.{is_token_byte, is_uri_byte, AllPass, LineEnd, crlf, lf, print_blank, EndsInTarget}
use Rattle.pp_head.specs.declared.part.Part.{Part}
use Rattle.pp_head.specs.declared.part.Part.TheVariants.{Blank, Return, Method, Target, Other}
use Rattle.pp_head.specs.Part.{part_after, part_of, is_target}

-- what is still to come from a part, so that the bytes end inside a target
abbrev Rest : Part → List ℕ → Type 0
Rest Blank bytes = EndsInTarget bytes
Rest Return bytes = EndsInTarget (13 ∷ bytes)
Rest Method bytes = (m : List ℕ) × (u : List ℕ) × AllPass is_token_byte m × AllPass is_uri_byte u × (bytes ≡ m ++ 32 ∷ u)
Rest Target bytes = AllPass is_uri_byte bytes
Rest Other bytes = ⊥

rest_step : (part : Part) (b : ℕ) (bytes : List ℕ) → Rest (part_after part b) bytes → Rest part (b ∷ bytes)
rest_step Blank b bytes = by (b == 10) refl (b == 13) refl (is_token_byte b) refl
  where
    by : (x : Bool) → (b == 10) ≡ x → (y : Bool) → (b == 13) ≡ y → (z : Bool) → is_token_byte b ≡ z
        → Rest (elim x [ true ↦ Blank | false ↦ elim y [ true ↦ Return | false ↦ elim z [ true ↦ Method | false ↦ Other ] ] ]) bytes → EndsInTarget (b ∷ bytes)
    by true is y n z t r = (lf ∷ r.0, r.1, r.2, r.3, r.4, cc (eqb-true b 10 is, r.5))
    by false x true is z t r = subst (λ (c : ℕ). EndsInTarget (c ∷ bytes)) (sym (eqb-true b 13 is)) r
    by false x false y true t r = ([], b ∷ r.0, r.1, (omega arith, All-cons (λ v. is_token_byte v ≡ true) b r.0 t r.2), r.3, cc (r.4))
    by false x false y false t r = absurd r
rest_step Return b bytes = by (b == 10) refl
  where
    by : (x : Bool) → (b == 10) ≡ x → Rest (elim x [ true ↦ Blank | false ↦ Other ]) bytes → EndsInTarget (13 ∷ b ∷ bytes)
    by true is r = (crlf ∷ r.0, r.1, r.2, r.3, r.4, cc (eqb-true b 10 is, r.5))
    by false is r = absurd r
rest_step Method b bytes = by (b == 32) refl (is_token_byte b) refl
  where
    by : (x : Bool) → (b == 32) ≡ x → (z : Bool) → is_token_byte b ≡ z
        → Rest (elim x [ true ↦ Target | false ↦ elim z [ true ↦ Method | false ↦ Other ] ]) bytes → Rest Method (b ∷ bytes)
    by true is z t r = ([], bytes, All-nil _, r, cc (eqb-true b 32 is))
    by false is true t r = (b ∷ r.0, r.1, All-cons (λ v. is_token_byte v ≡ true) b r.0 t r.2, r.3, cc (r.4))
    by false is false t r = absurd r
rest_step Target b bytes = by (is_uri_byte b) refl
  where
    by : (z : Bool) → is_uri_byte b ≡ z → Rest (elim z [ true ↦ Target | false ↦ Other ]) bytes → AllPass is_uri_byte (b ∷ bytes)
    by true t r = All-cons (λ v. is_uri_byte v ≡ true) b bytes t r
    by false t r = absurd r
rest_step Other b bytes = λ r. absurd r

rest_from : (bytes : List ℕ) (part : Part) → is_target (fold part_after part bytes) ≡ true → Rest part bytes
rest_from [] Blank is = absurd (cc)
rest_from [] Return is = absurd (cc)
rest_from [] Method is = absurd (cc)
rest_from [] Target is = All-nil _
rest_from [] Other is = absurd (cc)
rest_from (b ∷ bytes) part is = rest_step part b bytes (rest_from bytes (part_after part b) is)

-- a scan that ends in a target has read a method before it
pub target_ends : (bytes : List ℕ) → is_target (part_of bytes) ≡ true → EndsInTarget bytes
target_ends bytes is = rest_from bytes Blank is

blank_stays : (es : List LineEnd) → fold part_after Blank (print_blank es) ≡ Blank
blank_stays [] = refl
blank_stays (crlf ∷ es) = blank_stays es
blank_stays (lf ∷ es) = blank_stays es

token_is_not : (b c : ℕ) → is_token_byte b ≡ true → is_token_byte c ≡ false → (b == c) ≡ false
token_is_not b c t f = ne_eqb b c (λ e. both_ways _ f (subst (λ (v : ℕ). is_token_byte v ≡ true) e t))

no_lf : is_token_byte 10 ≡ false
unfolding is_token_byte
no_lf = refl

no_cr : is_token_byte 13 ≡ false
unfolding is_token_byte
no_cr = refl

method_stays : (m : List ℕ) → AllPass is_token_byte m → fold part_after Method m ≡ Method
method_stays [] all = refl
method_stays (b ∷ m) all =
    let t = All-head (λ v. is_token_byte v ≡ true) b m all in
    let no_space = token_is_not b 32 t space_ends_token in
    let next : part_after Method b ≡ Method = rw (no_space, t, part_after) refl in
    ap (λ (part : Part). fold part_after part m) next ∙ method_stays m (All-tail (λ v. is_token_byte v ≡ true) b m all)

method_comes : (m : List ℕ) → 0 < length m → AllPass is_token_byte m → fold part_after Blank m ≡ Method
method_comes [] some all = absurd (omega arith)
method_comes (b ∷ m) some all =
    let t = All-head (λ v. is_token_byte v ≡ true) b m all in
    let n = token_is_not b 10 t no_lf in
    let c = token_is_not b 13 t no_cr in
    let next : part_after Blank b ≡ Method = rw (n, c, t, part_after) refl in
    ap (λ (part : Part). fold part_after part m) next ∙ method_stays m (All-tail (λ v. is_token_byte v ≡ true) b m all)

target_stays : (u : List ℕ) → AllPass is_uri_byte u → fold part_after Target u ≡ Target
target_stays [] all = refl
target_stays (b ∷ u) all =
    let t = All-head (λ v. is_uri_byte v ≡ true) b u all in
    let next : part_after Target b ≡ Target = rw (t, part_after) refl in
    ap (λ (part : Part). fold part_after part u) next ∙ target_stays u (All-tail (λ v. is_uri_byte v ≡ true) b u all)

pub ends_target : (bytes : List ℕ) → EndsInTarget bytes → is_target (part_of bytes) ≡ true
ends_target bytes (blank, m, u, token, all, is) =
    ap (λ (p : Part). is_target p)
    (ap (λ (t : List ℕ). fold part_after Blank t) is
    ∙ fold-append part_after Blank (print_blank blank ++ m) (32 ∷ u)
    ∙ ap (λ (p : Part). fold part_after p (32 ∷ u)) (fold-append part_after Blank (print_blank blank) m ∙ ap (λ (p : Part). fold part_after p m) (blank_stays blank) ∙ method_comes m token.0 token.1)
    ∙ target_stays u all)
