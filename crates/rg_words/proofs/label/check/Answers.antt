use Rattle.std.proofs.Common.{◌≤◌, length, subst, arith}
use Rattle.std.specs.List.{prefix_len}
use Rattle.std.proofs.lemmas.List.Sums.{prefix_len_passes}
use Rattle.rg_text.specs.Byte.{is_name_byte}
use Rattle.rg_words.proofs.label.check.Goals as goal

pub returns-clause-name : goal.returns-clause-name
returns-clause-name c =
    let label = c.args.label.now in
    let all : length label ≤ c.name_len-size.result = omega (arith, c.if-size-label.false) in
    let whole : length label ≤ prefix_len is_name_byte label = subst (λ n. length label ≤ n) c.name_len-size.ensures.value all in
    record {
      some = c.requires;
      short = omega (arith, all, c.if-size-gt-MOST_NAME_BYTES.false);
      bytes = λ k d lt. prefix_len_passes is_name_byte label k d (omega (arith, whole));
    }
