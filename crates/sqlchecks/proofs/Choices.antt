-- A choice by a test.
use Rattle.std.proofs.Common.{◌≡◌, Bool, true, false, cond, refl}

pub if_true : {A : Type 0} (b : Bool) (x y : A) → b ≡ true → cond b x y ≡ x
if_true true x y e = refl
if_true false x y e = absurd cc

pub if_false : {A : Type 0} (b : Bool) (x y : A) → b ≡ false → cond b x y ≡ y
if_false true x y e = absurd cc
if_false false x y e = refl
