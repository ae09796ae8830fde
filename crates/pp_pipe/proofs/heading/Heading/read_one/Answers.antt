use Rattle.std.proofs.Common.{◌≡◌, ◌-◌, ℕ, List, ◌++◌, length, take, sym, subst, arith}
use Rattle.pp_head.specs.Response.{response_at}
use Rattle.pp_pipe.proofs.Pieces.{interim_past, final_past, waiting, no_response, passed_over, opened}
use Rattle.pp_pipe.specs.Answers.{IsOpened, IsPassedOver, IsWaiting, piece}
use Rattle.pp_pipe.specs.Looks.{found_of}
use Rattle.pp_pipe.specs.declared.front.Found.TheVariants.{More as FoundMore, Other, Interim, Final}
use Rattle.pp_pipe.proofs.heading.Heading.read_one.Goals as goal

pub overflow_sub-result : goal.overflow_sub-result
overflow_sub-result c =
    let text : List ℕ = c.args.self.now in
    let is : Interim c.in-Interim.len ≡ found_of c.args.head_request (response_at (text ++ piece text c.args.bytes.now)) = cc (c.in-Interim.ensures.found, c.deref.ensures.value, c.self-2.view_is, c.keep.ensures.kept) in
    let before : c.len-before.result ≡ length text = cc (c.len-before.ensures, c.self.view_is) in
    omega (arith, before, interim_past c.args.head_request text c.args.bytes.now c.in-Interim.len c.keep.ensures.short c.requires is)

pub overflow_sub-result-in-Final : goal.overflow_sub-result-in-Final
overflow_sub-result-in-Final c =
    let text : List ℕ = c.args.self.now in
    let is : Final c.in-Final.len c.in-Final.rule c.in-Final.fate ≡ found_of c.args.head_request (response_at (text ++ piece text c.args.bytes.now)) = cc (c.in-Final.ensures.found, c.deref.ensures.value, c.self-2.view_is, c.keep.ensures.kept) in
    let before : c.len-before.result ≡ length text = cc (c.len-before.ensures, c.self.view_is) in
    omega (arith, before, final_past c.args.head_request text c.args.bytes.now c.in-Final.len c.in-Final.rule c.in-Final.fate c.keep.ensures.short c.requires is)

pub returns-in-More : goal.returns-in-More
returns-in-More c =
    let text : List ℕ = c.args.self.now in
    let is : FoundMore ≡ found_of c.args.head_request (response_at (text ++ piece text c.args.bytes.now)) = cc (c.in-More.ensures.found, c.deref.ensures.value, c.self-2.view_is, c.keep.ensures.kept) in
    let kept : text ++ piece text c.args.bytes.now ≡ c.self-2.inside.text.items = cc (c.self-2.view_is, c.keep.ensures.kept) in
    subst (IsWaiting c.args.head_request text c.args.bytes.now) kept (waiting c.args.head_request text c.args.bytes.now c.keep.ensures.short is)

pub returns-in-Other : goal.returns-in-Other
returns-in-Other c =
    let text : List ℕ = c.args.self.now in
    let is : Other ≡ found_of c.args.head_request (response_at (text ++ piece text c.args.bytes.now)) = cc (c.in-Other.ensures.found, c.deref.ensures.value, c.self-2.view_is, c.keep.ensures.kept) in
    no_response c.args.head_request text c.args.bytes.now c.keep.ensures.short is

pub returns-in-Interim : goal.returns-in-Interim
returns-in-Interim c =
    let text : List ℕ = c.args.self.now in
    let is : Interim c.in-Interim.len ≡ found_of c.args.head_request (response_at (text ++ piece text c.args.bytes.now)) = cc (c.in-Interim.ensures.found, c.deref.ensures.value, c.self-2.view_is, c.keep.ensures.kept) in
    let before : length text ≡ c.len-before.result = cc (c.len-before.ensures, c.self.view_is) in
    subst (λ (n : ℕ). IsPassedOver c.args.head_request text c.args.bytes.now (c.in-Interim.len - n) c.clear.new.self.items) before
    (subst (IsPassedOver c.args.head_request text c.args.bytes.now (c.in-Interim.len - length text)) (sym c.clear.ensures.items)
    (passed_over c.args.head_request text c.args.bytes.now c.in-Interim.len c.keep.ensures.short c.requires is))

pub returns-in-Final : goal.returns-in-Final
returns-in-Final c =
    let text : List ℕ = c.args.self.now in
    let is : Final c.in-Final.len c.in-Final.rule c.in-Final.fate ≡ found_of c.args.head_request (response_at (text ++ piece text c.args.bytes.now)) = cc (c.in-Final.ensures.found, c.deref.ensures.value, c.self-2.view_is, c.keep.ensures.kept) in
    let before : length text ≡ c.len-before.result = cc (c.len-before.ensures, c.self.view_is) in
    let kept : take c.in-Final.len (text ++ piece text c.args.bytes.now) ≡ c.truncate.new.self.items = cc (c.truncate.ensures.items, c.self-2.view_is, c.keep.ensures.kept) in
    subst (λ (n : ℕ). IsOpened c.args.head_request text c.args.bytes.now (c.in-Final.len - n) c.in-Final.rule c.in-Final.fate c.truncate.new.self.items) before
    (subst (IsOpened c.args.head_request text c.args.bytes.now (c.in-Final.len - length text) c.in-Final.rule c.in-Final.fate) kept
    (opened c.args.head_request text c.args.bytes.now c.in-Final.len c.in-Final.rule c.in-Final.fate c.keep.ensures.short c.requires is))
