-- What a parse says of the front of what was read, it says of the input's.
use Rattle.std.proofs.Common.{append-nil, length-append, length-drop, ◌++◌, []}
use Rattle.std.proofs.Common.{rules, List, ℕ, arith, ◌≡◌, ◌+◌, ◌-◌, ◌<◌, ◌≤◌, ◌∙◌, ap, drop, length, subst, sym}
use Rattle.std.proofs.lemmas.List.{nil_from_length}
use Rattle.vet_requests.specs.Input.{heard}
use Rattle.vet_requests.specs.Head.{HasLongHead, HasNoHead, IsFound, Says, front}
use Rattle.vet_requests.specs.declared.head.Head.TheVariants.{Whole}
use Rattle.vet_requests.specs.declared.head.Parsed.TheVariants as parsed
use Rattle.vet_requests.proofs.FrontLemmas.{ended_head, found_head, long_head, never_head}
use Rattle.vet_requests.proofs.ReadLemmas.{behind_more, hands_more, of_end, of_read, of_told}
use Rattle.vet_requests.proofs.head.read_head.Goals as goal

pub returns-in-Whole-clause-whole : goal.returns-in-Whole-clause-whole
returns-in-Whole-clause-whole g c =
    let bytes = drop c.args.start c.reading.reader.handed in
    let fields = c.parse_front.new.fields in
    let is_front : c.front_of.result.now ≡ front bytes = c.front_of.ensures.front ∙ ap front
    c.handed_from-bytes.ensures in
    let says : Says c.front_of.result.now fields (parsed.Whole c.in-Whole.spans) = c.in-Whole.ensures in
    of_told _ _ bytes (λ input. IsFound input bytes fields (Whole c.in-Whole.spans)) c.reading.invariant.read.front
    (found_head bytes c.front_of.result.now fields is_front c.in-Whole.spans says)

pub returns-in-Never-clause-found : goal.returns-in-Never-clause-found
returns-in-Never-clause-found g c =
    let bytes = drop c.args.start c.reading.reader.handed in
    let is_front : c.front_of.result.now ≡ front bytes = c.front_of.ensures.front ∙ ap front
    c.handed_from-bytes.ensures in
    of_read bytes HasNoHead
    (never_head bytes c.front_of.result.now c.parse_front.new.fields is_front c.in-Never.ensures)

pub returns-in-Never-clause-whole : goal.returns-in-Never-clause-whole
returns-in-Never-clause-whole g c =
    let bytes = drop c.args.start c.reading.reader.handed in
    let is_front : c.front_of.result.now ≡ front bytes = c.front_of.ensures.front ∙ ap front
    c.handed_from-bytes.ensures in
    of_told _ _ bytes HasNoHead c.reading.invariant.read.front
    (never_head bytes c.front_of.result.now c.parse_front.new.fields is_front c.in-Never.ensures)

pub returns-then-count-gt-MOST_HEAD_BYTES-clause-found : goal.returns-then-count-gt-MOST_HEAD_BYTES-clause-found
returns-then-count-gt-MOST_HEAD_BYTES-clause-found g c =
    let bytes = drop c.args.start c.reading.reader.handed in
    let is_front : c.front_of.result.now ≡ front bytes = c.front_of.ensures.front ∙ ap front
    c.handed_from-bytes.ensures in
    let past : 16384 < length bytes = subst (λ (bs : List ℕ). 16384 < length bs) c.handed_from-bytes.ensures
    (search rules) in
    of_read bytes HasLongHead
    (long_head bytes c.front_of.result.now c.parse_front.new.fields is_front c.in-Open.ensures past)

pub returns-then-count-gt-MOST_HEAD_BYTES-clause-whole : goal.returns-then-count-gt-MOST_HEAD_BYTES-clause-whole
returns-then-count-gt-MOST_HEAD_BYTES-clause-whole g c =
    let bytes = drop c.args.start c.reading.reader.handed in
    let is_front : c.front_of.result.now ≡ front bytes = c.front_of.ensures.front ∙ ap front
    c.handed_from-bytes.ensures in
    let past : 16384 < length bytes = subst (λ (bs : List ℕ). 16384 < length bs) c.handed_from-bytes.ensures
    (search rules) in
    of_told _ _ bytes HasLongHead c.reading.invariant.read.front
    (long_head bytes c.front_of.result.now c.parse_front.new.fields is_front c.in-Open.ensures past)

pub returns-then-branch-eq0-clause-whole : goal.returns-then-branch-eq0-clause-whole
returns-then-branch-eq0-clause-whole g c =
    let bytes = drop c.args.start c.reading.reader.handed in
    let seen = heard g.R.Read.remaining c.reading.reader in
    let last = heard g.R.Read.remaining c.read_more.new.self in
    let read = c.in_ok-read_more.ensures.read in
    let none : read.0 ≡ [] = nil_from_length read.0 (read.1.0 ∙ c.if-branch-eq0.true) in
    let same : drop c.args.start c.read_more.new.self.handed ≡ bytes =
    behind_more seen last c.args.start read.0 c.reading.invariant.start read.1.1
    ∙ ap (λ (more : List ℕ). bytes ++ more) none ∙ append-nil bytes in
    let is_front : c.front_of.result.now ≡ front bytes = c.front_of.ensures.front ∙ ap front
    c.handed_from-bytes.ensures in
    let short : length bytes ≤ 16384 =
    subst (λ (bs : List ℕ). length bs ≤ 16384) c.handed_from-bytes.ensures (search rules) in
    let ended = ended_head bytes c.front_of.result.now c.parse_front.new.fields is_front c.in-Open.ensures short in
    let whole = hands_more (heard g.R.Read.remaining c.args.reader.now) seen last c.args.start read.0
    c.reading.invariant.start c.reading.invariant.read read.1.1 in
    of_end _ _ (drop c.args.start c.read_more.new.self.handed) HasNoHead whole.front
    (c.in_ok-read_more.ensures.end c.if-branch-eq0.true) (subst HasNoHead (sym same) ended)

pub reading-preserved : goal.reading-preserved
reading-preserved g c =
    let bytes = drop c.args.start c.reading.reader.handed in
    let seen = heard g.R.Read.remaining c.reading.reader in
    let last = heard g.R.Read.remaining c.read_more.new.self in
    let read = c.in_ok-read_more.ensures.read in
    let count : length bytes ≡ length c.reading.reader.handed - c.args.start =
    length-drop c.args.start c.reading.reader.handed in
    let same : length c.handed_from-bytes.result.now ≡ length bytes = ap length c.handed_from-bytes.ensures in
    let grown : length c.read_more.new.self.handed ≡ length c.reading.reader.handed + length read.0 =
    ap length read.1.1.kept ∙ length-append c.reading.reader.handed read.0 in
    record {
      start = omega (arith, grown, c.reading.invariant.start);
      short = omega (
        arith,
        grown,
        count,
        same,
        read.1.0,
        c.reading.invariant.start,
        c.reading.invariant.short,
        c.in_ok-read_more.ensures.count,
      );
      room = search rules;
      read = hands_more (heard g.R.Read.remaining c.args.reader.now) seen last c.args.start read.0
          c.reading.invariant.start c.reading.invariant.read read.1.1;
    }
