mod Arm64
mod NeverThere
mod OfM4
mod ReadForms
