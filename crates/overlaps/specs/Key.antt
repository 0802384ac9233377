-- The laws of the comparison of keys.
use Rattle.std.specs.Prelude.{◌≡◌, refl, List}
use Rattle.std.specs.Cmp.{IsTotalOrder, IsPartialOrder, IsEquivalence, int_cmp_total, on_total, eq_by_cmp_equiv, partial_order_from_total}
use Rattle.std.specs.Cmp.Lexicographic.{lists_total}
use Rattle.std.specs.Ordering.{is_eq, as_partial_cmp}
use Rattle.model.specs.declared.value.Value.{Value}
use Rattle.model.specs.Values.{value_code, key_cmp, same_key}

pub key_cmp_total : IsTotalOrder key_cmp
unfolding key_cmp
key_cmp_total = lists_total (on_total value_code (lists_total int_cmp_total))

pub key_cmp_partial : IsPartialOrder same_key (as_partial_cmp key_cmp)
unfolding same_key
key_cmp_partial = partial_order_from_total key_cmp_total

pub same_key_equiv : IsEquivalence same_key
unfolding same_key
same_key_equiv = eq_by_cmp_equiv key_cmp_total

pub same_key-ties : (k l : List Value) → same_key k l ≡ is_eq (key_cmp k l)
unfolding same_key
same_key-ties k l = refl
