use Rattle.std.proofs.Common.{Bor, ◌≡◌, ◌∙◌, ◌+◌, ℕ, List, [], ◌∷◌, ◌++◌, Some, length, ap, sym, refl, inl, inr, arith, length-append, ◌≢◌}
use Rattle.std.proofs.lemmas.List.Elements.{All-append}
use Rattle.csv.proofs.ReadFacts.{rows-end, rows-more}
use Rattle.csv.specs.Reading.{Reached, default_config, strip_bom}
use Rattle.csv.specs.Records.{fields_of}
use Rattle.csv.specs.declared.parser.State.TheVariants as st
use Rattle.input_fields.specs.GrantFiles.{most_records, records_of}
use Rattle.input_fields.specs.GrantLines.{IsInRange, grant_line, grant_lines}
use Rattle.input_fields.specs.declared.grant_line.GrantLine.{GrantLine}
use Rattle.input_fields.proofs.LineLemmas.{All-one, length-lines_from, lines_from-append}
use Rattle.input_fields.proofs.RecordLemmas.{records-all, records-some}
use Rattle.input_fields.proofs.grants.lines_of.Goals as goal

-- nothing was read so far
pub loop-found-init : goal.loop-found-init
unfolding Reached
loop-found-init c =
    let made = c.from_reader-reader.ensures in
    let flexible = c.flexible.ensures in
    let plain = c.has_headers.ensures in
    record {
      trim = rw (flexible, plain) at made.trim ∙ c.new.ensures.trim;
      ready = inr (inr (rw (flexible, plain) at made.has_headers, made.headers));
      flexible = rw flexible at made.flexible;
      config = rw (flexible, plain) at made.config ∙ c.new.ensures.config;
      few = rw c.new-lines.ensures.items (omega arith);
      ranges = rw c.new-lines.ensures.items (λ k d lt. absurd (omega arith));
      read = ([], strip_bom c.args.text.now, made.source, (sym made.state, refl), c.new-lines.ensures.items);
    }

-- at the end all records were read
pub returns-then-not-found-clause-lines : goal.returns-then-not-found-clause-lines
returns-then-not-found-clause-lines c =
    let inv = c.loop-found.invariant in
    let read = rw c.if-not-found.true at (c.in-Ok.ensures.reads inv.trim inv.ready) in
    let end = rows-end (λ (s : Bor (List ℕ)). Some s.now) c.loop-found.reader c.read_byte_record.new.self (fields_of c.read_byte_record.new.row) default_config inv.read.1 inv.config inv.read.2 read in
    let all = records-all default_config c.loop-found.reader.state (strip_bom c.args.text.now) inv.read.1 inv.read.0 inv.read.3 end in
    inv.read.4 ∙ ap grant_lines (sym all)

pub returns-then-not-found-clause-few : goal.returns-then-not-found-clause-few
returns-then-not-found-clause-few c =
    let inv = c.loop-found.invariant in
    let read = rw c.if-not-found.true at (c.in-Ok.ensures.reads inv.trim inv.ready) in
    let end = rows-end (λ (s : Bor (List ℕ)). Some s.now) c.loop-found.reader c.read_byte_record.new.self (fields_of c.read_byte_record.new.row) default_config inv.read.1 inv.config inv.read.2 read in
    let all = records-all default_config c.loop-found.reader.state (strip_bom c.args.text.now) inv.read.1 inv.read.0 inv.read.3 end in
    let same : length c.loop-found.lines.items ≡ length (records_of c.args.text.now) = ap length inv.read.4 ∙ length-lines_from 1 inv.read.0 ∙ ap length (sym all) in
    let few = inv.few in
    omega arith

-- one record after as many as there may be
pub returns-then-len-eq-MOST_RECORDS-clause-many :
    goal.returns-then-len-eq-MOST_RECORDS-clause-many
returns-then-len-eq-MOST_RECORDS-clause-many c =
    let inv = c.loop-found.invariant in
    let read = rw c.if-not-found.false at (c.in-Ok.ensures.reads inv.trim inv.ready) in
    let more = rows-more (λ (s : Bor (List ℕ)). Some s.now) c.loop-found.reader c.read_byte_record.new.self (fields_of c.read_byte_record.new.row) default_config st.StartRecord (strip_bom c.args.text.now) inv.read.1 inv.read.0 inv.config inv.read.2 inv.read.3 read in
    let few = records-some default_config c.read_byte_record.new.self.state (strip_bom c.args.text.now) more.0 (inv.read.0 ++ fields_of c.read_byte_record.new.row ∷ []) more.2 in
    let all : length (inv.read.0 ++ fields_of c.read_byte_record.new.row ∷ []) ≡ length inv.read.0 + 1 = length-append inv.read.0 (fields_of c.read_byte_record.new.row ∷ []) in
    let lines : length c.loop-found.lines.items ≡ length inv.read.0 = ap length inv.read.4 ∙ length-lines_from 1 inv.read.0 in
    let full : length c.loop-found.lines.items ≡ most_records = sym c.loop-found.lines.ok.0 ∙ sym c.len.ensures ∙ c.if-len-eq-MOST_RECORDS.true in
    λ many. omega arith

-- one record more was read, and its line is the last
pub loop-found-preserved : goal.loop-found-preserved
loop-found-preserved c =
    let inv = c.loop-found.invariant in
    let read = rw c.if-not-found.false at (c.in-Ok.ensures.reads inv.trim inv.ready) in
    let more = rows-more (λ (s : Bor (List ℕ)). Some s.now) c.loop-found.reader c.read_byte_record.new.self (fields_of c.read_byte_record.new.row) default_config st.StartRecord (strip_bom c.args.text.now) inv.read.1 inv.read.0 inv.config inv.read.2 inv.read.3 read in
    let lines : length c.loop-found.lines.items ≡ length inv.read.0 = ap length inv.read.4 ∙ length-lines_from 1 inv.read.0 in
    let items = c.in_ok-push.ensures.items in
    let grown : length c.push.new.self.items ≡ length c.loop-found.lines.items + 1 = ap length items ∙ length-append c.loop-found.lines.items (c.grant_line.result ∷ []) in
    let few = inv.few in
    let room : length c.loop-found.lines.items ≢ most_records = λ full. c.if-len-eq-MOST_RECORDS.false (c.len.ensures ∙ c.loop-found.lines.ok.0 ∙ full) in
    let size : c.len-in-loop-found.result ≡ length inv.read.0 = c.len-in-loop-found.ensures ∙ c.loop-found.lines.ok.0 ∙ lines in
    let number : c.len-in-loop-found.result + 1 ≡ 1 + length inv.read.0 = omega arith in
    record {
      trim = read.3 ∙ inv.trim;
      ready = inl (c.in-Ok.ensures.ready inv.trim);
      flexible = c.in-Ok.ensures.flexible ∙ inv.flexible;
      config = read.2 ∙ inv.config;
      few = omega arith;
      ranges = rw items (All-append IsInRange c.loop-found.lines.items (c.grant_line.result ∷ []) inv.ranges (All-one IsInRange c.grant_line.result c.grant_line.ensures.range));
      read = (
        inv.read.0 ++ fields_of c.read_byte_record.new.row ∷ [],
        more.0,
        more.1,
        more.2,
        items ∙ ap (λ (before : List GrantLine). before ++ c.grant_line.result ∷ []) inv.read.4
            ∙ ap (λ (line : GrantLine). grant_lines inv.read.0 ++ line ∷ []) (c.grant_line.ensures.said ∙ ap (λ (n : ℕ). grant_line n (fields_of c.read_byte_record.new.row)) number)
            ∙ sym (lines_from-append 1 inv.read.0 (fields_of c.read_byte_record.new.row)),
      );
    }
