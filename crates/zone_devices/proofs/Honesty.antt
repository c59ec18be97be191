-- A way that hands on from its beginning hands on from where nothing was left.
use Rattle.std.proofs.Common.{◌≡◌, ℕ, ◌≤◌, List, ◌++◌, length, drop, sym, ap, ◌∙◌, arith}
use Rattle.std.proofs.lemmas.List.{drop-append-le, length-append}
use Rattle.zone_devices.specs.Links.{Way, WentOn, HandsOn, no_way}

pub hands_on_since : (old new : Way) (taken handed : List (List ℕ)) → old.handed ≡ old.taken → HandsOn no_way new → WentOn old new taken handed → HandsOn old new
hands_on_since old new taken handed all whole went =
    let n = length old.taken in
    let same : length old.handed ≡ n = ap length all in
    let inside : n ≤ length new.handed = omega (arith, ap length went.handed, length-append old.handed handed, same) in
    record {
      in_order = (whole.in_order.0, ap (λ xs. drop n xs) whole.in_order.1 ∙ drop-append-le n new.handed whole.in_order.0 inside ∙ ap (λ k. drop k new.handed ++ whole.in_order.0) (sym same));
      to_the_end = λ e. ap (λ k. drop k new.handed) same ∙ ap (λ xs. drop n xs) (whole.to_the_end e);
    }
